-- All where there is no header, else what the header says. Assumes nothing.
use lib.ListN.{length}
use borrow.Author.Tests.{lt-ltb, le-ltb}
use Rattle.script_show.specs.Records.{record_size}
use Rattle.script_show.proofs.records.record_size.Goals as goal

pub returns-then-bytes-lt2 : goal.returns-then-bytes-lt2
unfolding record_size
returns-then-bytes-lt2 c =
    rw (lt-ltb (length c.args.bytes.now) 2 c.if-bytes-lt2.true)

pub returns : goal.returns
unfolding record_size
returns c =
    rw (le-ltb (length c.args.bytes.now) 2 c.if-bytes-lt2.false, ← c.length_field.ensures) c.size_within.ensures
