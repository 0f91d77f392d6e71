-- A colon ends the first number, and the second is what stands behind it. Assumes nothing.
use mathlib.Core.Path.{◌≡◌, sym, ap, ◌∙◌}
use mathlib.Core.Bool.{true}
use borrow.Author.Tests.{not-true, not-false}
use Rattle.eiproto.specs.Interface.{ascii}
use Rattle.script.specs.Words.{starts_with}
use Rattle.eiproto.specs.Told.{told}
use Rattle.script.specs.Told.{value_told, word_told}
use Rattle.script.proofs.Words.{starts_told}
use Rattle.script.proofs.Values.{no_part, part_open, part-start, part_length, part-given}
use Rattle.std.proofs.lemmas.Bool.{not_from_false, not_from_true}
use Rattle.script.proofs.value.part_of_texts.Goals as goal

pub returns-then-not-starts_with : goal.returns-then-not-starts_with
unfolding ascii
returns-then-not-starts_with c = λ l. no_part c.args.word.now (starts_told (ascii "p:") c.args.word.now _ _ c.starts_with.ensures.value (not-true c.starts_with.result (not_from_false _ c.if-not-starts_with.true)))

pub returns-then-word-colon : goal.returns-then-word-colon
unfolding ascii
returns-then-word-colon c =
    let begins_at : starts_with (ascii "p:") c.args.word.now ≡ true = starts_told (ascii "p:") c.args.word.now _ _ c.starts_with.ensures.value (not-false c.starts_with.result (not_from_true _ c.if-not-starts_with.false)) in
    λ l. part_open c.args.word.now begins_at c.find_byte-colon.result c.find_byte-colon.ensures c.if-word-colon.true

pub returns-in_err-start : goal.returns-in_err-start
unfolding ascii
returns-in_err-start c =
    let begins_at : starts_with (ascii "p:") c.args.word.now ≡ true = starts_told (ascii "p:") c.args.word.now _ _ c.starts_with.ensures.value (not-false c.starts_with.result (not_from_true _ c.if-not-starts_with.false)) in
    λ l. ap (word_told l) c.from_residual.ensures ∙ part-start c.args.word.now begins_at c.find_byte-colon.result c.find_byte-colon.ensures (ap told (sym c.in_err-start.was) ∙ c.number.ensures)

pub returns-in_err-length : goal.returns-in_err-length
unfolding ascii
returns-in_err-length c =
    let begins_at : starts_with (ascii "p:") c.args.word.now ≡ true = starts_told (ascii "p:") c.args.word.now _ _ c.starts_with.ensures.value (not-false c.starts_with.result (not_from_true _ c.if-not-starts_with.false)) in
    λ l. ap (word_told l) c.from_residual-in_err-length.ensures ∙ part_length c.args.word.now begins_at c.find_byte-colon.result c.find_byte-colon.ensures (ap told (sym c.in_err-length.was) ∙ c.number-2.ensures)

pub returns : goal.returns
unfolding value_told ascii
returns c =
    let begins_at : starts_with (ascii "p:") c.args.word.now ≡ true = starts_told (ascii "p:") c.args.word.now _ _ c.starts_with.ensures.value (not-false c.starts_with.result (not_from_true _ c.if-not-starts_with.false)) in
    λ l. part-given c.args.word.now begins_at c.find_byte-colon.result c.find_byte-colon.ensures
    c.in_ok-start.start c.in_ok-length.length
    (ap told (sym c.in_ok-start.was) ∙ c.number.ensures) (ap told (sym c.in_ok-length.was) ∙ c.number-2.ensures)
