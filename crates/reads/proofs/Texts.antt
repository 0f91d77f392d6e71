-- Each single call keeps the texts, or is refused and keeps all. Assumes nothing.
use Prim.Native.Nat.{ℕ, suc}
use mathlib.Core.Path.{◌≡◌, refl, sym, ap, ◌∙◌}
use mathlib.Core.Bool.{Bool, true, false}
use mathlib.Core.List.{List}
use native.Mathlib.Omega.{arith}
use Rattle.model.specs.Call.{Input, Call}
use Rattle.model.specs.Step.{refuses}
use Rattle.model_reads.specs.Read.{Entry}
use Rattle.session.specs.View.{Store, is_whole, Lending}
use Rattle.session.proofs.Views.{whole_is}
use Rattle.answers.specs.Meets.{Answered}
use Rattle.answers.specs.declared.Error.{Error}
use Rattle.std.specs.Prelude.{Ok, Err}
use Rattle.answers.proofs.Meetings.{answered-handled, error_refuses}
use Rattle.answers.proofs.Texts.{others_keep_texts}
use Rattle.reads.specs.declared.ReadAnswer.{ReadAnswer}
use Rattle.reads.specs.Handed.{Singly}
use Rattle.reads.specs.Texts.{NoTextAmong, ReadKeepsTexts}

-- a refused call hands everything back as it was
refused_same : {s e : Store} {out later : List ℕ} {call : Call Input} {clock : ℕ} {error : Error} → is_whole s ≡ true
    → Answered Lending.all s e out later call clock (Err error) → e ≡ s
refused_same {s} {error = error} w answered =
    let h = answered-handled s answered w in
    h.kept (ap refuses (sym h.outcome) ∙ error_refuses error)

singly_same : {clock : ℕ} {s e : Store} {out later : List ℕ} {es : List (Entry (Call Input))} {r : ReadAnswer} → is_whole s ≡ true
    → Singly clock s e out later es r → NoTextAmong r.accepted es → e.texts ≡ s.texts
singly_same w Singly.none other = refl
singly_same w Singly.bad_part other = refl
singly_same w (Singly.refused answered) other = ap (λ (x : Store). x.texts) (refused_same w answered)
singly_same {s = s} w (Singly.accepted {m = m} {mid = mid} {call = call} {answer = a} answered rest) other =
    singly_same (whole_is m (answered-handled s answered w).whole) rest (λ j call l. other (suc j) call (omega arith))
    ∙ others_keep_texts s m _ mid call _ (Ok a) answered (other 0 call (omega arith) refl)

pub read_keeps_texts : ReadKeepsTexts
read_keeps_texts s e out later entries clock r h other = by (is_whole s) refl
  where
    by : (b : Bool) → is_whole s ≡ b → e.texts ≡ s.texts
    by false d = ap (λ (x : Store). x.texts) (h.damaged d).1.0
    by true w = singly_same w (h.handled w) other
