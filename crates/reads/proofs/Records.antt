-- One record behind those that were accepted. Assumes nothing.
use Prim.Native.Nat.{ℕ, ◌+◌, ◌-◌, ◌≤◌}
use mathlib.Core.Path.{◌≡◌, refl, sym, ap, ◌∙◌}
use mathlib.Core.Bool.{true}
use mathlib.Core.List.{List, [], ◌++◌, append-nil}
use mathlib.Core.Option.{none, some}
use native.Mathlib.Omega.{arith}
use lib.ListN.{length, take, drop, take-append-drop, length-append, length-drop}
use lib.Seq.{take_all, drop-drop, drop-length}
use Rattle.wire.specs.Bits.{splice}
use Rattle.model.specs.Call.{Load}
use Rattle.model.specs.Plan.{records}
use Rattle.model.specs.Step.{Step}
use Rattle.session.specs.View.{Store, is_whole, Lending}
use Rattle.answers.specs.declared.Error.{Error}
use Rattle.std.specs.Prelude.{Result, Err}
use Rattle.answers.specs.Answer.{count_of}
use Rattle.answers.specs.declared.Answer.{Answer}
use Rattle.answers.specs.Meets.{Meets, Answered}
use Rattle.answers.proofs.Meetings.{answered-handled}
use Rattle.reads.specs.declared.ReadAnswer.{ReadAnswer}
use Rattle.reads.specs.declared.record.RequestRecord.{RequestRecord}
use Rattle.reads.specs.Record.{entry_of, part_of}
use Rattle.reads.specs.Handed.{joined, Taken}
use Rattle.reads.proofs.Parts.{call_in, entry-bad, entry-call}

-- what a call wrote lies within what it was lent
within : (out recs : List ℕ) → length recs ≤ length (splice out 0 recs)
unfolding splice
within out recs = rw (length-append recs (drop (0 + length recs) out)) (omega arith)

pub count-within : {s e : Store} (out : List ℕ) {later : List ℕ} {T : Type 0} {to : Step Load} {a : Result Answer Error} → Meets s e out later T to a → count_of a ≤ length later
count-within out {to = to} m = rw (m.count, m.bytes) (within out (records to.events))

-- the record's part leaves the texts
pub bad-taken : (s : Store) (out lent : List ℕ) (x : RequestRecord) (clock : ℕ) (b r : ReadAnswer) (a : Result Answer Error)
    → part_of lent x ≡ none → a ≡ Err Error.BadPart → r ≡ joined b a
    → Taken s s out out (entry_of lent x) clock b r
bad-taken s out lent x clock b r a h told j =
    rw (entry-bad lent x h) (record {
      answer = a;
      rest = drop b.count out;
      joins = j;
      tried = (refl, (refl, told));
      bytes = sym (take-append-drop b.count out);
    })

-- the record is tried, with what is left of `out`; `later` is that behind the call
module _ (s e : Store) (out later lent : List ℕ) (x : RequestRecord) (clock : ℕ) (b : ReadAnswer) (a : Result Answer Error) (t : List ℕ) (w : is_whole s ≡ true)
    (l : b.count ≤ length out) (same : length later ≡ length (take (length out - b.count) (drop b.count out)))
    (answered : Answered Lending.all s e (take (length out - b.count) (drop b.count out)) later (call_in lent x t) clock a) where
  all_left : take (length out - b.count) (drop b.count out) ≡ drop b.count out
  all_left = take_all (length out - b.count) (drop b.count out) (omega (arith, length-drop b.count out))

  answered-left : Answered Lending.all s e (drop b.count out) later (call_in lent x t) clock a
  answered-left = rw all_left at answered

  nothing-behind : drop (length out - b.count) (drop b.count out) ≡ []
  nothing-behind =
      let e : b.count + (length out - b.count) ≡ length out = omega arith in
      drop-drop (length out - b.count) b.count out ∙ ap (λ (n : ℕ). drop n out) e ∙ drop-length out

  pub call_fits : b.count + count_of a ≤ length out
  call_fits = omega (arith, count-within (drop b.count out) (answered-handled s answered-left w), same, ap length all_left, length-drop b.count out)

  pub call-taken : (r : ReadAnswer) → part_of lent x ≡ some t → r ≡ joined b a
      → Taken s e out (take b.count out ++ (later ++ drop (length out - b.count) (drop b.count out))) (entry_of lent x) clock b r
  call-taken r h j =
      rw (entry-call lent x t h) (record {
        answer = a;
        rest = later;
        joins = j;
        tried = answered-left;
        bytes = ap (λ (z : List ℕ). take b.count out ++ z) (ap (λ (z : List ℕ). later ++ z) nothing-behind ∙ append-nil later);
      })
