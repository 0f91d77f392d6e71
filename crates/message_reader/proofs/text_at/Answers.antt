-- The three tests in turn. Assumes nothing.
use mathlib.Core.Path.{◌≡◌}
use native.Mathlib.Omega.{arith}
use borrow.Author.Tests.{lt-leb, le-leb}
use Rattle.message_reader.specs.Read.{part_of, text_of, text_at}
use Rattle.message_reader.proofs.text_at.Goals.{then-count-lt1-via-then-count-lt1, then-count-lt1-via-else-count-lt1+then-count-gt255, then-count-lt1-via-else-count-lt1+else-count-gt255+then-message-at}
use Rattle.message_reader.proofs.text_at.Goals as goal

pub returns-then-count-lt1 : goal.returns-then-count-lt1
unfolding text_at text_of
returns-then-count-lt1 c =
    let none : part_of 0 0 ≡ text_at c.args.message.now c.args.at =
    elim c.then-count-lt1.branch [
      | then-count-lt1-via-then-count-lt1 w ↦ rw (← c.word_at-count.ensures, lt-leb _ _ w.if-count-lt1.true)
      | then-count-lt1-via-else-count-lt1+then-count-gt255 w ↦ rw (← c.word_at-count.ensures, le-leb _ _ w.if-count-lt1.false, lt-leb _ _ w.if-count-gt255.true)
      | then-count-lt1-via-else-count-lt1+else-count-gt255+then-message-at w ↦ rw (← c.word_at-count.ensures, le-leb _ _ w.if-count-lt1.false, le-leb _ _ w.if-count-gt255.false, lt-leb _ _ w.if-message-at.true)
    ] in
    (none, (omega arith, omega arith))

pub returns : goal.returns
unfolding text_at text_of
returns c = (rw (← c.word_at-count.ensures, le-leb _ _ c.if-count-lt1.false, le-leb _ _ c.if-count-gt255.false, le-leb _ _ c.if-message-at.false), (omega arith, omega arith))
