-- In words the object, what the record says and the end of the line; or its digits behind a space. Assumes nothing.
use Rattle.script_pattern.proofs.Lines.{written_then, written_is}
use Rattle.script_show.specs.Records.{record_bytes}
use Rattle.script_show.proofs.records.tell.Goals as goal

pub returns-then-words : goal.returns-then-words
unfolding record_bytes
returns-then-words c =
    written_is (written_then c.show.ensures (written_then c.text_shown.ensures c.byte.ensures)) (rw (c.object_shown.ensures, c.if-words.true))

pub returns-else-words : goal.returns-else-words
unfolding record_bytes
returns-else-words c =
    written_is (written_then c.byte-else-words.ensures c.hexadecimal.ensures) (rw c.if-words.false)
