-- The slot is free, so no request but the new one sees its text. Assumes nothing.
use mathlib.Core.Path.{sym, subst}
use mathlib.Core.List.{List, [], ◌∷◌}
use Prim.Native.Nat.{ℕ}
use Rattle.model.specs.Call.{Input, sight, Load}
use Rattle.model.specs.Edit.{Edit}
use Rattle.session.specs.View.{store}
use Rattle.session.specs.Enact.{Enacted}
use Rattle.texts.proofs.Slots.{text-pended}
use Rattle.texts.proofs.pend_text.Goals as goal

pub returns-clause-step : goal.returns-clause-step
returns-clause-step c =
    let a = c.args in
    let placed =
    subst
    (λ (ts : List ℕ). Enacted (store a.session.now.control.now a.session.now.words.now a.session.now.reals.now a.texts.now) (store c.pend.new.session.control.now c.pend.new.session.words.now c.pend.new.session.reals.now ts) (Edit.pend a.k (sight (Input.Utf8 a.text.now)) ∷ []) (Load.Text a.text.now))
    (sym c.put_text.ensures)
    (text-pended a.texts.now a.text.now a.slot c.requires.low c.requires.short c.requires.whole.texts_long a.k c.requires.free c.text_utf8-request.ensures c.pend.ensures.step) in
    (placed, c.put_text.ensures)
