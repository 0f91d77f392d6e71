-- `utf8_cases::answer_to` meets its contract: the definition's cases are the code's. Assumes nothing.
use Prim.Native.Nat.{ℕ, ◌≤◌, ◌<◌}
use mathlib.Core.Path.{◌≡◌, ap, sym, ◌∙◌}
use mathlib.Core.Bool.{true, false}
use mathlib.Core.List.{List}
use mathlib.Core.Option.{some}
use borrow.Author.Tests.{le-leb, lt-leb}
use lib.ListN.{length, take}
use lib.Seq.{length-take-le}
use Rattle.utf8.specs.Rfc3629.{is_utf8}
use Rattle.utf8_cases.specs.Answers.{Read, told, count_of, is_comment, verdict, answer_to}
use Rattle.utf8_cases.specs.declared.Verdict.TheVariants.{Comment, TooLong, Valid, NotValid}
use Rattle.std.specs.Prelude.{Some, None}
use Rattle.std.specs.Prelude as rust
use Rattle.utf8_cases.proofs.answer_to.Goals as goal

module _ (l : List ℕ) where
  comment : is_comment l ≡ true → Comment ≡ answer_to l
  unfolding answer_to
  comment e = rw e

  too_long : is_comment l ≡ false → 1024 < length l → TooLong ≡ answer_to l
  unfolding answer_to
  too_long e h = rw (e, lt-leb (length l) 1024 h)

  module _ (text : List ℕ) (r : rust.Option ℕ) (e : is_comment l ≡ false) (h : length l ≤ 1024) (d : Read l text r) where
    judged : (b : rust.Option ℕ) → r ≡ b → verdict (told b text) ≡ answer_to l
    unfolding answer_to
    judged b g = rw (e, le-leb (length l) 1024 h, ← d.bytes, g)

-- what the test of the text says
yes_valid : (bs : List ℕ) → is_utf8 bs ≡ true → Valid ≡ verdict (some bs)
unfolding verdict
yes_valid bs e = rw e

no_valid : (bs : List ℕ) → is_utf8 bs ≡ false → NotValid ≡ verdict (some bs)
unfolding verdict
no_valid bs e = rw e

pub returns-then-is_comment : goal.returns-then-is_comment
returns-then-is_comment c = comment c.args.line.now (sym c.is_comment.ensures ∙ c.if-is_comment.true)

pub returns-then-line-gt1024 : goal.returns-then-line-gt1024
returns-then-line-gt1024 c =
    too_long c.args.line.now (sym c.is_comment.ensures ∙ c.if-is_comment.false) c.if-line-gt1024.true

pub slice_bounds-text-end : goal.slice_bounds-text-end
slice_bounds-text-end c =
    let b = c.bytes_of in
    rw (ap count_of c.in-Some.is) at b.ensures.fits

pub slice_bounds-valid-end : goal.slice_bounds-valid-end
slice_bounds-valid-end c =
    sym (length-take-le c.in-Some.n c.bytes_of.new.text (rw (ap count_of c.in-Some.is) at c.bytes_of.ensures.fits))

pub returns-then-valid : goal.returns-then-valid
returns-then-valid c =
    let l = c.args.line.now in
    yes_valid (take c.in-Some.n c.bytes_of.new.text) (sym c.valid.ensures ∙ c.if-valid.true)
    ∙ judged l c.bytes_of.new.text c.bytes_of.result (sym c.is_comment.ensures ∙ c.if-is_comment.false) c.if-line-gt1024.false c.bytes_of.ensures (Some c.in-Some.n) c.in-Some.is

pub returns-else-valid : goal.returns-else-valid
returns-else-valid c =
    let l = c.args.line.now in
    no_valid (take c.in-Some.n c.bytes_of.new.text) (sym c.valid.ensures ∙ c.if-valid.false)
    ∙ judged l c.bytes_of.new.text c.bytes_of.result (sym c.is_comment.ensures ∙ c.if-is_comment.false) c.if-line-gt1024.false c.bytes_of.ensures (Some c.in-Some.n) c.in-Some.is

pub returns-in_default : goal.returns-in_default
unfolding verdict
returns-in_default c =
    let l = c.args.line.now in
    judged l c.bytes_of.new.text c.bytes_of.result (sym c.is_comment.ensures ∙ c.if-is_comment.false) c.if-line-gt1024.false c.bytes_of.ensures None c.in_default.is
