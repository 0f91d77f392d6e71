-- A damaged session is handed back as it was; of any other the contract tells what becomes of its texts. Assumes nothing.
use Prim.Native.Nat.{ℕ, ◌+◌, ◌*◌, ◌≤◌}
use mathlib.Core.Path.{◌≡◌, refl, ap, subst, sym}
use mathlib.Core.Logic.{◌⊎◌, inl, inr, dite}
use mathlib.Core.Bool.{Bool, true, false, false≢true}
use mathlib.Core.List.{List}
use native.Mathlib.Decide.{dec_lt}
use native.Mathlib.Omega.{arith}
use lib.ListN.{length, take, drop}
use Rattle.wire.proofs.Splices.{splice-before, splice-behind}
use Rattle.requests.specs.Row.{row_at}
use Rattle.control.proofs.Tables.{case_eq}
use Rattle.model.specs.Call.{Input, Plain, Call}
use Rattle.session.specs.View.{Store, slot_length, Free, is_whole, Whole, Lending, is_intact}
use Rattle.session.proofs.Views.{whole_parts}
use Rattle.answers.specs.Texts.{Stored, TextsAfter}
use Rattle.answers.specs.Meets.{Answered}
use Rattle.answers.specs.Kept.{NoText, OthersKeepTexts, UntakenKeepsTexts, UsedSlotsStay}
use Rattle.std.specs.Prelude.{Result}
use Rattle.answers.specs.declared.Error.{Error}
use Rattle.answers.specs.declared.Answer.{Answer}

is_timed : Call Input → Bool
is_timed (Call.timed i v input) = true
is_timed (Call.plain c) = false

pub plain-no_text : (c : Plain) → NoText (Call.plain c)
unfolding is_timed
plain-no_text c interface version text p = false≢true (ap is_timed p)

pub no_text : {s e : Store} {call : Call Input} → NoText call → TextsAfter s e call → e.texts ≡ s.texts
no_text other (TextsAfter.kept same) = same
no_text other (TextsAfter.stored interface version text p x) = absurd (other interface version text p)

-- of slices that are not whole nothing is written
answered : {s e : Store} {out later : List ℕ} {call : Call Input} {clock : ℕ} {r : Result Answer Error} → Answered Lending.all s e out later call clock r
    → (e.texts ≡ s.texts) ⊎ (Whole s × TextsAfter s e call)
unfolding is_intact
answered {s} {e} {call = call} a = by (is_whole s) refl
  where
    by : (b : Bool) → is_whole s ≡ b → (e.texts ≡ s.texts) ⊎ (Whole s × TextsAfter s e call)
    by false d = inl (ap (λ (x : Store). x.texts) (a.damaged d).1.0)
    by true i = let w = whole_parts s i in inr (w, (a.handled i w).texts)

pub others_keep_texts : OthersKeepTexts
others_keep_texts s e out later call clock r a other = go (answered a)
  where
    go : (e.texts ≡ s.texts) ⊎ (Whole s × TextsAfter s e call) → e.texts ≡ s.texts
    go (inl same) = same
    go (inr (w, t)) = no_text other t

pub untaken_keeps_texts : UntakenKeepsTexts
untaken_keeps_texts s e out later call clock r a few = go (answered a)
  where
    go : (e.texts ≡ s.texts) ⊎ (Whole s × TextsAfter s e call) → e.texts ≡ s.texts
    go (inl same) = same
    go (inr (w, TextsAfter.kept same)) = same
    go (inr (w, TextsAfter.stored interface version text p x)) = absurd (omega (arith, few, x.more))

-- another slot than the one that the text was put in
other-slot : {s e : Store} {text : List ℕ} (slot : ℕ) → Whole s → (x : Stored s e text) → (slot ≡ x.slot → ⊥)
    → take slot_length (drop (slot_length * slot) e.texts) ≡ take slot_length (drop (slot_length * slot) s.texts)
other-slot {s} {text = text} slot w x ne =
    let at = slot_length * x.slot in
    let fits : at + length text ≤ length s.texts = omega (arith, x.low, x.short, w.texts_long) in
    rw x.bytes
    (dite (dec_lt slot x.slot) (λ l. splice-before s.texts text at fits (slot_length * slot) slot_length (omega arith))
    (λ n. splice-behind s.texts text at fits (slot_length * slot) slot_length (case_eq slot x.slot (λ e. absurd (ne e)) (λ m. omega (arith, x.short)))))

pub used_slots_stay : UsedSlotsStay
used_slots_stay s e out later call clock r a slot used = go (answered a)
  where
    go : (e.texts ≡ s.texts) ⊎ (Whole s × TextsAfter s e call)
        → take slot_length (drop (slot_length * slot) e.texts) ≡ take slot_length (drop (slot_length * slot) s.texts)
    go (inl same) = ap (λ (l : List ℕ). take slot_length (drop (slot_length * slot) l)) same
    go (inr (w, TextsAfter.kept same)) = ap (λ (l : List ℕ). take slot_length (drop (slot_length * slot) l)) same
    go (inr (w, TextsAfter.stored interface version text p x)) =
        other-slot slot w x (λ q. used (subst (Free s.control (row_at s.words s.reals)) (sym q) x.free))
