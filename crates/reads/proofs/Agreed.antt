-- Each single call is a step of the model, so the read that they make is the model's. Assumes nothing.
use Prim.Native.Nat.{ℕ, suc, ◌+◌, ◌-◌}
use mathlib.Core.Path.{◌≡◌, refl, sym, ap, ◌∙◌}
use mathlib.Core.Bool.{true, false, false≢true}
use mathlib.Core.List.{List, [], ◌∷◌, ◌++◌, append_assoc, map}
use native.Mathlib.Omega.{arith}
use native.Mathlib.Nat.{zero-add}
use lib.ListN.{length, take, drop, length-append, length-drop}
use lib.Seq.{take-append_seam, drop-append_seam, drop-drop}
use Rattle.wire.specs.Bits.{splice}
use Rattle.wire.proofs.Splices.{splice-none}
use Rattle.model.specs.Call.{Input, Load, Call, split}
use Rattle.model.specs.Plan.{Result, records, refusal}
use Rattle.model.specs.Step.{Step, refuses, unchanged, step}
use Rattle.model.specs.Refusals.{of_session, OwnRefusals}
use Rattle.model.proofs.Refusals.{own_refusals}
use Rattle.model_reads.specs.Read.{Entry, loaded, map_entry, Read, tried, before, handed_over}
use Rattle.session.specs.View.{Store, session, is_whole}
use Rattle.session.proofs.Views.{whole_parts, whole_is}
use Rattle.answers.specs.Answer.{error_of}
use Rattle.answers.specs.declared.Error.{Error}
use Rattle.answers.specs.Meets.{turn}
use Rattle.answers.proofs.Meetings.{answered-handled, error_refuses, ending_goes_on}
use Rattle.events.proofs.Writes.{records-append}
use Rattle.std.specs.Prelude.{Option, Some, None}
use Rattle.reads.specs.declared.ReadAnswer.{ReadAnswer}
use Rattle.reads.specs.Handed.{Singly}
use Rattle.reads.specs.Agrees.{Agrees, model_read, HandedIsRead, ReadNever21}

-- ---- bytes one after another
module _ (out xs : List ℕ) where
  front : take (length xs) (splice out 0 xs) ≡ xs
  unfolding splice
  front = take-append_seam xs (drop (0 + length xs) out)

  left_over : drop (length xs) (splice out 0 xs) ≡ drop (length xs) out
  unfolding splice
  left_over = drop-append_seam xs (drop (0 + length xs) out) ∙ ap (λ (n : ℕ). drop n out) (zero-add (length xs))

  then_written : (ys : List ℕ) → xs ++ splice (drop (length xs) out) 0 ys ≡ splice out 0 (xs ++ ys)
  unfolding splice
  then_written ys =
      let far : length xs + (0 + length ys) ≡ 0 + length (xs ++ ys) = omega (arith, length-append xs ys) in
      sym (append_assoc xs ys (drop (0 + length ys) (drop (length xs) out)))
      ∙ ap (λ (l : List ℕ). (xs ++ ys) ++ l) (drop-drop (0 + length ys) (length xs) out ∙ ap (λ (n : ℕ). drop n out) far)

-- ---- the first record's step, and the others'
module _ (first : Step Load) (others : Read Load) where
  before-refused : refuses first.outcome ≡ true
      → before first others ≡ record { session = first.session; accepted = 0; events = first.events; outcome = first.outcome }
  unfolding before
  before-refused h = rw h

  before-accepted : refuses first.outcome ≡ false
      → before first others ≡ record { session = others.session; accepted = suc others.accepted; events = first.events ++ others.events; outcome = others.outcome }
  unfolding before
  before-accepted h = rw h

abbrev step_of : Call Input → (clock : ℕ) (out : List ℕ) → Store → Step Load
step_of call clock out s = step (split (turn call clock out)) (session s)

-- the model's read of a request and others
read-request : (call : Call Input) (es : List (Entry (Call Input))) (clock : ℕ) (out : List ℕ) (s : Store)
    → model_read (Entry.request call ∷ es) clock (length out) s
    ≡ before (step_of call clock out s)
    (handed_over (map (map_entry loaded) es) clock (length out - length (records (step_of call clock out s).events)) (step_of call clock out s).session)
unfolding handed_over tried map_entry loaded split
read-request call es clock out s = refl

read-bad : (es : List (Entry (Call Input))) (clock room : ℕ) (s : Store)
    → model_read (Entry.bad_part ∷ es) clock room s ≡ record { session = session s; accepted = 0; events = []; outcome = Result.refused 22 }
unfolding handed_over before tried map_entry unchanged refuses refusal
read-bad es clock room s = refl

agreed : {clock : ℕ} (s : Store) {e : Store} (out : List ℕ) {later : List ℕ} {es : List (Entry (Call Input))} {r : ReadAnswer} → is_whole s ≡ true → Singly clock s e out later es r
    → Agrees s e out later (model_read es clock (length out) s) r
unfolding handed_over records
agreed s out w Singly.none =
    record { whole = whole_parts s w; view = refl; accepted = refl; outcome = refl; count = refl; bytes = sym (splice-none out 0) }
agreed {clock} s out w (Singly.bad_part {es = es}) =
    rw (read-bad es clock (length out) s) (record { whole = whole_parts s w; view = refl; accepted = refl; outcome = refl; count = refl; bytes = sym (splice-none out 0) })
agreed {clock} s out w (Singly.refused {call = call} {es = es} {error = error} answered) =
    let m = answered-handled s answered w in
    let st = step_of call clock out s in
    let stops : refuses st.outcome ≡ true = ap refuses (sym m.outcome) ∙ error_refuses error in
    rw (read-request call es clock out s, before-refused st _ stops) (record {
      whole = m.whole;
      view = m.view;
      accepted = refl;
      outcome = m.outcome;
      count = m.count;
      bytes = m.bytes;
    })
agreed {clock} s out w (Singly.accepted {m = n} {mid = mid} {call = call} {es = es} {answer = a} {others = r} answered rest) =
    let m = answered-handled s answered w in
    let st = step_of call clock out s in
    let recs = records st.events in
    let goes : refuses st.outcome ≡ false = ap refuses (sym m.outcome) ∙ ending_goes_on a.outcome in
    let left : drop a.count mid ≡ drop (length recs) out = rw (m.count, m.bytes) (left_over out recs) in
    let wrote : take a.count mid ≡ recs = rw (m.count, m.bytes) (front out recs) in
    let room : length (drop a.count mid) ≡ length out - length recs = ap length left ∙ length-drop (length recs) out in
    let others = handed_over (map (map_entry loaded) es) clock (length out - length recs) st.session in
    let same : model_read es clock (length (drop a.count mid)) n ≡ others =
    (λ i. handed_over (map (map_entry loaded) es) clock (room i) (m.view i)) in
    let after = rw same at (agreed n (drop a.count mid) (whole_is n m.whole) rest) in
    rw (read-request call es clock out s, before-accepted st others goes) (record {
      whole = after.whole;
      view = after.view;
      accepted = ap suc after.accepted;
      outcome = after.outcome;
      count = rw (records-append st.events others.events, length-append recs (records others.events), m.count, after.count);
      bytes = rw (records-append st.events others.events, ← then_written out recs (records others.events), wrote, after.bytes, left);
    })

pub handed_is_read : HandedIsRead
handed_is_read s e out later entries clock r w h = agreed s out w (h.handled w)

-- ---- 21 once

unfoldable number_in : Option Error → ℕ
unfolding refusal
number_in None = 0
number_in (Some e) = refusal (error_of e)

-- 21 is no running session's refusal
not_21 : (n : ℕ) → of_session n ≡ true → n ≡ 21 → ⊥
not_21 n h e = false≢true (ap of_session (sym e) ∙ h)

never : {clock : ℕ} (s : Store) {e : Store} {out later : List ℕ} {es : List (Entry (Call Input))} {r : ReadAnswer} → is_whole s ≡ true → Singly clock s e out later es r
    → r.refusal ≡ Some Error.BadState → ⊥
unfolding OwnRefusals refusal number_in
never s w Singly.none h = omega (arith, ap number_in h)
never s w Singly.bad_part h = omega (arith, ap number_in h)
never {clock} s {out = out} w (Singly.refused {call = call} {error = error} answered) h =
    let m = answered-handled s answered w in
    not_21 (refusal (error_of error)) (ap (λ (x : Result). of_session (refusal x)) m.outcome ∙ own_refusals (split (turn call clock out)) (session s)) (ap number_in h)
never s w (Singly.accepted {m = n} answered rest) h = never n (whole_is n (answered-handled s answered w).whole) rest h

pub read_never_21 : ReadNever21
read_never_21 s e out later entries clock r w h = never s w (h.handled w)
