-- How a call is shown to meet the step of the model: it was refused, ignored or only asked something, or its plan was carried out.
use Prim.Native.Nat.{ℕ}
use mathlib.Core.Path.{◌≡◌, refl, sym, ◌∙◌, ap}
use mathlib.Core.Bool.{Bool, true, false, cond, not, false≢true}
use mathlib.Core.List.{List}
use native.Mathlib.Omega.{arith}
use borrow.Author.Tests.{not-true, not-false}
use lib.Ieee.{Float}
use lib.ListN.{length}
use Rattle.wire.specs.Bits.{splice}
use Rattle.wire.proofs.Splices.{splice-none}
use Rattle.model.specs.Call.{Input, Load, Plain, Call, map_call, split}
use Rattle.model.specs.Session.{view}
use Rattle.model.specs.Plan.{Plan, records, answer, refusal}
use Rattle.model.specs.Plan as plan
use Rattle.model.specs.Decide.{decide_plain, decide}
use Rattle.model.specs.Step.{Step, refuses, unchanged, carried_out, step}
use Rattle.model_steps.proofs.Steps.{step-answer}
use Rattle.control.specs.Sound.{Sound, is_sound}
use Rattle.session.specs.declared.LentSession.{LentSession}
use Rattle.session.specs.Loan.{store_of}
use Rattle.session.specs.View.{Store, store, session, texts_length, is_lent, is_whole, Lent, Whole, Lending, is_intact}
use Rattle.std.proofs.lemmas.List.{length-replicate}
use Rattle.std.proofs.Math.ListN.{replicate}
use Rattle.session.specs.Enact.{Enacted}
use Rattle.session.proofs.Views.{whole_parts, whole_intact}
use Rattle.std.specs.Prelude.{Result, Ok, Err}
use Rattle.std.specs.Result.{IsErrAnd}
use Rattle.std.proofs.lemmas.Result.{err_from_is_err_and}
use Rattle.answers.specs.Check.{Tests}
use Rattle.answers.specs.Answer.{error_of, ending_of, outcome_of, count_of, Tells}
use Rattle.answers.specs.declared.Error.{Error}
use Rattle.answers.specs.declared.Outcome.{Outcome}
use Rattle.answers.specs.declared.Answer.{Answer}
use Rattle.answers.specs.Texts.{TextsAfter}
use Rattle.answers.specs.Meets.{Meets, turn, Handled, HandledRows, HandledControl, Answered}

-- nothing changed, nothing written
pub meets-unchanged : (s : Store) (out : List ℕ) {call : Call Input} (to : Step Load) (o : plan.Result) (r : Result Answer Error) → Whole s → to ≡ unchanged (session s) o
    → outcome_of r ≡ o → count_of r ≡ 0 → Meets s s out out (TextsAfter s s call) to r
unfolding unchanged records
meets-unchanged s out to o r w e told none =
    record {
      whole = w;
      view = sym (ap (λ (x : Step Load). x.session) e);
      outcome = told ∙ sym (ap (λ (x : Step Load). x.outcome) e);
      count = none ∙ sym (ap (λ (x : Step Load). length (records x.events)) e);
      bytes = sym (splice-none out 0) ∙ sym (ap (λ (x : Step Load). splice out 0 (records x.events)) e);
      kept = λ h. refl;
      texts = TextsAfter.kept refl;
    }

-- a plan that was carried out
pub meets-done : (s e : Store) (out later : List ℕ) {T : Type 0} (to : Step Load) (p : Plan) (load : Load) (r : Result Answer Error) → Whole e → to ≡ carried_out p load (session s)
    → Enacted s e p.edits load → refuses p.outcome ≡ false → outcome_of r ≡ p.outcome → count_of r ≡ length (records p.events)
    → later ≡ splice out 0 (records p.events) → T → Meets s e out later T to r
unfolding carried_out
meets-done s e out later to p load r w is done fine told count bytes texts =
    record {
      whole = w;
      view = done.view ∙ sym (ap (λ (x : Step Load). x.session) is);
      outcome = told ∙ sym (ap (λ (x : Step Load). x.outcome) is);
      count = count ∙ sym (ap (λ (x : Step Load). length (records x.events)) is);
      bytes = bytes ∙ sym (ap (λ (x : Step Load). splice out 0 (records x.events)) is);
      kept = λ h. let z : ◌≡◌ {A = ℕ} 0 1 = ap (λ (b : Bool). cond b 0 1) (sym h ∙ ap (λ (x : Step Load). refuses x.outcome) is ∙ fine) in absurd (omega arith);
      texts = texts;
    }

-- a test that a function answers, behind `if !..`
pub failed : {b x : Bool} → b ≡ x → not b ≡ true → x ≡ false
failed {b} e h = sym e ∙ not-true b h

pub passed : {b x : Bool} → b ≡ x → not b ≡ false → x ≡ true
passed {b} e h = sym e ∙ not-false b h

-- an answer that a call gives where it is not refused
pub ends : {a : Answer} {o : Outcome} {n : ℕ} → (a.outcome ≡ o) × (a.count ≡ n) → Tells (Ok a) (ending_of o) n
ends told = (ap ending_of told.0, told.1)

-- a refusal
pub refused_is : {r : Result Answer Error} {e : Error} → r ≡ Err e → Tells r (error_of e) 0
refused_is is = (ap outcome_of is, ap count_of is)

-- the same of an error that `?` hands on
pub handed_on : (r : Result Answer Error) {e : Error} → IsErrAnd r (λ y. y ≡ e) → r ≡ Err e
handed_on r h = let p = err_from_is_err_and r h in p.1 ∙ ap Err p.2

-- 21, and what follows where it does not apply
pub damaged-answered : {l : Lending} {s : Store} {out : List ℕ} {call : Call Input} {clock : ℕ} {r : Result Answer Error} → is_intact l s ≡ false
    → r ≡ Err Error.BadState → Answered l s s out out call clock r
damaged-answered d e = record { damaged = λ _. (e, (refl, refl)); handled = λ w. absurd (false≢true (sym d ∙ w)) }

pub intact_answered : {l : Lending} {s e : Store} {out later : List ℕ} {call : Call Input} {clock : ℕ} {r : Result Answer Error} → is_intact l s ≡ true
    → (Whole s → Handled s e out later call clock r) → Answered l s e out later call clock r
intact_answered w h = record { damaged = λ d. absurd (false≢true (sym d ∙ w)); handled = λ _. h }

-- the same by what a call is lent: the control words, the rows of requests too, or all four slices
pub unsound_answered : {c out : List ℕ} {call : Call Input} {clock : ℕ} {r : Result Answer Error} {e : Error} → Tests (is_sound c) (Err e)
    → IsErrAnd r (λ y. y ≡ e)
    → (w : List ℕ) (q : List Float) (t : List ℕ) → Answered Lending.control (store c w q t) (store c w q t) out out call clock r
unfolding is_intact
unsound_answered d h w q t = damaged-answered d.0 (handed_on _ h ∙ ap Err d.1)

pub sound-answered : {c d out later : List ℕ} {call : Call Input} {clock : ℕ} {r : Result Answer Error} → is_sound c ≡ true → HandledControl c d out later call clock r
    → (w : List ℕ) (q : List Float) (t : List ℕ) → Answered Lending.control (store c w q t) (store d w q t) out later call clock r
unfolding is_intact
sound-answered i h w q t = intact_answered i (h w q t)

pub unlent_answered : {c w : List ℕ} {q : List Float} {out : List ℕ} {call : Call Input} {clock : ℕ} {r : Result Answer Error} {e : Error}
    → Tests (is_lent c w q) (Err e) → IsErrAnd r (λ y. y ≡ e)
    → (t : List ℕ) → Answered Lending.rows (store c w q t) (store c w q t) out out call clock r
unfolding is_intact
unlent_answered d h t = damaged-answered d.0 (handed_on _ h ∙ ap Err d.1)

pub lent-answered : {c w d v : List ℕ} {q p : List Float} {out later : List ℕ} {call : Call Input} {clock : ℕ} {r : Result Answer Error} → is_lent c w q ≡ true
    → HandledRows c w q d v p out later call clock r
    → (t : List ℕ) → Answered Lending.rows (store c w q t) (store d v p t) out later call clock r
unfolding is_intact
lent-answered i h t = intact_answered i (h t)

pub unwhole_answered : {s : Store} {out : List ℕ} {call : Call Input} {clock : ℕ} {r : Result Answer Error} {e : Error}
    → Tests (is_whole s) (Err e) → IsErrAnd r (λ y. y ≡ e) → Answered Lending.all s s out out call clock r
unfolding is_intact
unwhole_answered d h = damaged-answered d.0 (handed_on _ h ∙ ap Err d.1)

-- a call that changes the control words alone leaves a session, whatever texts are lent with it
pub lent-still : {c d w : List ℕ} {q : List Float} {out later : List ℕ} {call : Call Input} (clock : ℕ) {r : Result Answer Error} → Lent c w q
    → HandledControl c d out later call clock r → Lent d w q
lent-still {c} {w = w} {q = q} clock lent h =
    let texts : List ℕ = replicate texts_length 0 in
    let before : Whole (store c w q texts) = record { sound = lent.sound; words_long = lent.words_long; reals_long = lent.reals_long; texts_long = length-replicate {A = ℕ} texts_length 0 } in
    record { sound = (h w q texts before).whole.sound; words_long = lent.words_long; reals_long = lent.reals_long }

-- a session was lent on: e is what was lent as the call left it, and so is what the caller's slices hold then
pub lent-back : {c w d v : List ℕ} {q p : List Float} {out later : List ℕ} {call : Call Input} {clock : ℕ} {r : Result Answer Error} (e : LentSession)
    → d ≡ e.control.now → v ≡ e.words.now → p ≡ e.reals.now
    → ((t : List ℕ) → Answered Lending.rows (store c w q t) (store_of e t) out later call clock r)
    → (t : List ℕ) → Answered Lending.rows (store c w q t) (store d v p t) out later call clock r
lent-back e is_control is_words is_reals a t = rw (is_control, is_words, is_reals) (a t)

pub whole-back : {s : Store} {d v t : List ℕ} {p : List Float} {out later : List ℕ} {call : Call Input} {clock : ℕ} {r : Result Answer Error} (e : LentSession)
    → d ≡ e.control.now → v ≡ e.words.now → p ≡ e.reals.now
    → Answered Lending.all s (store_of e t) out later call clock r → Answered Lending.all s (store d v p t) out later call clock r
whole-back e is_control is_words is_reals a = rw (is_control, is_words, is_reals) a

-- on a session that is whole a call is the model's, whatever it is lent
pub answered-handled : {l : Lending} (s : Store) {e : Store} {out later : List ℕ} {call : Call Input} {clock : ℕ} {r : Result Answer Error}
    → Answered l s e out later call clock r → is_whole s ≡ true → Handled s e out later call clock r
answered-handled {l} s a h = let w = whole_parts s h in a.handled (whole_intact l s w) w

-- refused by a limit
pub over-handled : (s : Store) (out : List ℕ) (call : Call Input) (clock : ℕ) (o : plan.Result) (r : Result Answer Error) → Whole s
    → step (split (turn call clock out)) (session s) ≡ unchanged (session s) o → Tells r o 0
    → Handled s s out out call clock r
over-handled s out call clock o r w e told =
    meets-unchanged s out (step (split (turn call clock out)) (session s)) o r w e told.0 told.1

-- refused by a test of the call, or only answered
pub told-handled : (s : Store) (out : List ℕ) (call : Plain) (clock : ℕ) (o : plan.Result) (r : Result Answer Error) → Whole s
    → decide_plain (view (session s)) clock call ≡ answer o → Tells r o 0
    → Handled s s out out (Call.plain call) clock r
unfolding split map_call decide
told-handled s out call clock o r w e told =
    over-handled s out (Call.plain call) clock o r w (step-answer (split (turn (Call.plain call) clock out)) (session s) o e) told

-- the slices behind a call, whose lengths have not changed
pub whole-after : {c v : List ℕ} {q : List Float} (s : Store) → Whole s → Sound c → length v ≡ length s.words → length q ≡ length s.reals
    → Whole (store c v q s.texts)
whole-after s w sound words reals =
    record { sound = sound; words_long = words ∙ w.words_long; reals_long = reals ∙ w.reals_long; texts_long = w.texts_long }

-- an error of the code refuses
pub error_refuses : (e : Error) → refuses (error_of e) ≡ true
unfolding refuses refusal
error_refuses Error.UnexpectedHandshakeEvent = refl
error_refuses (Error.InvalidInterfaceVersion i v) = refl
error_refuses Error.InvalidCapabilities = refl
error_refuses Error.TooManyTouches = refl
error_refuses Error.DuplicatedTouchDown = refl
error_refuses Error.InvalidTextLength = refl
error_refuses Error.BadUtf8 = refl
error_refuses Error.NameLong = refl
error_refuses Error.UnknownHandle = refl
error_refuses Error.BadCapabilities = refl
error_refuses Error.FullSeats = refl
error_refuses Error.FullDevices = refl
error_refuses Error.FullPending = refl
error_refuses Error.FullQueue = refl
error_refuses Error.FullTexts = refl
error_refuses Error.ShortOut = refl
error_refuses Error.IdsSpent = refl
error_refuses Error.BadState = refl
error_refuses Error.BadPart = refl
error_refuses Error.InvalidId = refl

-- and an answer does not
pub ending_goes_on : (o : Outcome) → refuses (ending_of o) ≡ false
unfolding refuses refusal
ending_goes_on Outcome.Accepted = refl
ending_goes_on (Outcome.Seat id) = refl
ending_goes_on (Outcome.Device id) = refl
ending_goes_on (Outcome.Value n) = refl
ending_goes_on (Outcome.Truth b) = refl
ending_goes_on Outcome.None = refl
