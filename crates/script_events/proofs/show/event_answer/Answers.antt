-- The line, and behind it the words. Assumes nothing.
use borrow.Author.Rules.{rules}
use Rattle.script_pattern.specs.Put.{Writes}
use Rattle.script_pattern.proofs.Lines.{written_then, written_is}
use Rattle.script_events.specs.Shown.{event_line}
use Rattle.script_events.proofs.show.event_answer.Goals as goal

pub returns : goal.returns
unfolding event_line
returns c =
    let a = c.args in
    let written : Writes c.new-line.result c.event_words.new.line (event_line a.event a.r a.out.now a.explained) =
    written_is (written_then c.ended_first.ensures c.event_words.ensures) (rw (c.event_shown.ensures, c.event_count-count.ensures)) in
    search rules
