-- The read so far: single calls led to the slices as they stand, and any that lead on from there make a whole read with them. The loops of `reads` and of
-- `lent_read` keep it. Assumes nothing.
use Prim.Native.Nat.{ℕ, suc, ◌+◌, ◌≤◌, ◌<◌, ◌^◌}
use mathlib.Core.Path.{◌≡◌, refl, sym, ap, subst, ◌∙◌}
use mathlib.Core.Bool.{Bool, true, false, false≢true}
use mathlib.Core.List.{List, [], ◌∷◌, map, ◌++◌, append_assoc}
use native.Mathlib.Omega.{arith}
use native.Mathlib.Nat.{zero-add, add-zero, add_assoc}
use native.Mathlib.Numerals.{add-one}
use lib.Ieee.{Float}
use lib.ListN.{length, take, drop, get_or, length-map, length-append, take-append-drop, drop_of_length-le, get_or-map}
use lib.Seq.{drop-cons, drop_at, drop-drop, take-append-add, length-take-le}
use Rattle.model.specs.Call.{Input, Call}
use Rattle.model_reads.specs.Read.{Entry}
use Rattle.session.specs.declared.LentSession.{LentSession}
use Rattle.session.specs.View.{Store, store, is_whole, Whole, Lending}
use Rattle.session.specs.Loan.{store_of}
use Rattle.session.proofs.Views.{whole_is, whole_parts}
use Rattle.answers.specs.declared.Error.{Error}
use Rattle.answers.specs.declared.Answer.{Answer}
use Rattle.answers.specs.Meets.{Answered}
use Rattle.answers.proofs.Meetings.{answered-handled}
use Rattle.std.specs.Prelude.{Option, Some, None, is_some, Result, Ok, Err}
use Rattle.answers.specs.Answer.{count_of}
use Rattle.reads.specs.declared.ReadAnswer.{ReadAnswer}
use Rattle.reads.specs.declared.record.RequestRecord.{RequestRecord}
use Rattle.reads.specs.Record.{entry_of}
use Rattle.reads.proofs.Records.{count-within}
use Rattle.reads.specs.Handed.{opened, one_more, joined, Singly, Handed, Taken}

-- whether a read was refused, told of its refusal
abbrev pub refused : ReadAnswer → Bool
refused b = is_some b.refusal

pub goes : (b : ReadAnswer) → refused b ≡ false → b.refusal ≡ None
goes b h = by b.refusal h
  where
    by : (f : Option Error) → is_some f ≡ false → f ≡ None
    by None h = refl
    by (Some e) h = absurd (false≢true (sym h))

opened-accepted : (w : Bool) → (opened w).accepted ≡ 0
opened-accepted true = refl
opened-accepted false = refl

-- what others are told, behind what was told so far
abbrev pub behind : ReadAnswer → ReadAnswer → ReadAnswer
behind b r = record { accepted = b.accepted + r.accepted; count = b.count + r.count; refusal = r.refusal }

opened-behind : (r : ReadAnswer) → behind (opened true) r ≡ r
opened-behind r = λ i. record { accepted = zero-add r.accepted i; count = zero-add r.count i; refusal = r.refusal }

module _ (s₀ : Store) (out₀ : List ℕ) (es : List (Entry (Call Input))) (clock : ℕ) where
  pub record Going (e : Store) (out : List ℕ) (b : ReadAnswer) : Type 0 where
    pub whole : is_whole e ≡ true
    pub fits : b.count ≤ length out
    -- no record was refused: whatever the others come to, with what is left of `out`, makes a read of all
    pub onward : b.refusal ≡ None → (f : Store) (later : List ℕ) (r : ReadAnswer)
        → Singly clock e f (drop b.count out) later (drop b.accepted es) r → Singly clock s₀ f out₀ (take b.count out ++ later) es (behind b r)
    -- one was: the read has ended
    pub ended : (error : Error) → b.refusal ≡ Some error → Singly clock s₀ e out₀ out es b

  pub record SoFar (e : Store) (out : List ℕ) (b : ReadAnswer) : Type 0 where
    pub damaged : is_whole s₀ ≡ false → (b ≡ opened false) × ((e ≡ s₀) × (out ≡ out₀))
    pub handled : is_whole s₀ ≡ true → Going e out b

  pub begun : (e : Store) (b : ReadAnswer) → (b ≡ opened (is_whole s₀)) × (e ≡ s₀) → SoFar e out₀ b
  begun e b (told, is) =
      record {
        damaged = λ d. (told ∙ ap opened d, (is, refl));
        handled = λ w.
            let o : b ≡ opened true = told ∙ ap opened w in
            rw (o, is) (record {
              whole = w;
              fits = omega arith;
              onward = λ n f later r t. subst (λ (x : ReadAnswer). Singly clock s₀ f out₀ later es x) (sym (opened-behind r)) t;
              ended = λ error n. absurd (false≢true ((ap is_some n)));
            });
      }

  pub none_tried : (e : Store) (b : ReadAnswer) → (b ≡ opened (is_whole s₀)) × (e ≡ s₀) → b.accepted ≡ 0
  none_tried e b (told, is) = ap (λ (r : ReadAnswer). r.accepted) told ∙ opened-accepted (is_whole s₀)

  -- a read that is not refused is of a session that is not damaged
  not-damaged : (e : Store) (out : List ℕ) (b : ReadAnswer) → SoFar e out b → b.refusal ≡ None → is_whole s₀ ≡ true
  not-damaged e out b h n = by_test (is_whole s₀) refl
    where
      by_test : (y : Bool) → is_whole s₀ ≡ y → is_whole s₀ ≡ true
      by_test true y = y
      by_test false y = absurd (false≢true (ap is_some (sym n ∙ ap (λ (z : ReadAnswer). z.refusal) (h.damaged y).0)))

  -- as it begins it may be lent on
  pub lendable : (e : Store) (b : ReadAnswer) → (b ≡ opened (is_whole s₀)) × (e ≡ s₀) → refused b ≡ false → Whole e
  lendable e b told none =
      let h = begun e b told in
      whole_parts e (h.handled (not-damaged e out₀ b h (goes b none))).whole

  -- one more record may be tried
  pub ready : (e : Store) (out : List ℕ) (b : ReadAnswer) → SoFar e out b → b.refusal ≡ None → b.accepted < length es → length es < 2 ^ 64
      → (is_whole e ≡ true) × ((b.count ≤ length out) × (b.accepted + 1 < 2 ^ 64))
  ready e out b h none k l = let go = h.handled (not-damaged e out b h none) in (go.whole, (go.fits, omega (arith, k, l)))

  -- no record is left, or one was refused
  stopped : (e : Store) (out : List ℕ) (b : ReadAnswer) → Going e out b → (f : Option Error) → b.refusal ≡ f → (f ≡ None → b.accepted ≡ length es)
      → Singly clock s₀ e out₀ out es b
  stopped e out b go None is g =
      let all : drop b.accepted es ≡ [] = drop_of_length-le es (omega (arith, g refl)) in
      let t = go.onward is e (drop b.count out) (opened true) (rw all Singly.none) in
      rw (take-append-drop b.count out, add-zero b.accepted, add-zero b.count, ← is) at t
  stopped e out b go (Some error) is g = go.ended error is

  pub finished : (e : Store) (out : List ℕ) (b : ReadAnswer) → SoFar e out b → (b.refusal ≡ None → b.accepted ≡ length es) → Handed s₀ e out₀ out es clock b
  finished e out b h g = record { damaged = h.damaged; handled = λ w. stopped e out b (h.handled w) b.refusal refl g }

  pub ended_early : (e : Store) (out : List ℕ) (b : ReadAnswer) → SoFar e out b → refused b ≡ true → Handed s₀ e out₀ out es clock b
  ended_early e out b h g = finished e out b h (λ n. absurd (false≢true (sym (ap is_some n) ∙ g)))

  -- ---- a record is tried: `rest` is what is left of `out` behind the call
  module _ (e : Store) (out : List ℕ) (b : ReadAnswer) (go : Going e out b) (none : b.refusal ≡ None) where
    -- its part leaves the texts
    bad_at : drop b.accepted es ≡ Entry.bad_part ∷ drop (b.accepted + 1) es
        → Going e out (record { accepted = b.accepted; count = b.count; refusal = Some Error.BadPart })
    bad_at here =
        record {
          whole = go.whole;
          fits = omega (arith, go.fits);
          onward = λ n. absurd (false≢true (sym (ap is_some n)));
          ended = λ error n.
              let t = go.onward none e (drop b.count out) (record { accepted = 0; count = 0; refusal = Some Error.BadPart }) (rw here Singly.bad_part) in
              rw (take-append-drop b.count out, add-zero b.accepted, add-zero b.count) at t;
        }

    module _ (f : Store) (rest : List ℕ) (call : Call Input) (here : drop b.accepted es ≡ Entry.request call ∷ drop (b.accepted + 1) es) where
      abbrev later : List ℕ
      later = take b.count out ++ rest

      front : length (take b.count out) ≡ b.count
      front = length-take-le b.count out go.fits

      module _ {r : Result Answer Error} (answered : Answered Lending.all e f (drop b.count out) rest call clock r) where
        whole-after : is_whole f ≡ true
        whole-after = whole_is f (answered-handled e answered go.whole).whole

        fits_after : b.count + count_of r ≤ length later
        fits_after =
            omega (arith, count-within (drop b.count out) (answered-handled e answered go.whole), length-append (take b.count out) rest, front)

      stopped_at : (error : Error) → Answered Lending.all e f (drop b.count out) rest call clock (Err error)
          → Going f later (record { accepted = b.accepted; count = b.count; refusal = Some error })
      stopped_at error answered =
          record {
            whole = whole-after answered;
            fits = omega (arith, fits_after answered);
            onward = λ n. absurd (false≢true (sym (ap is_some n)));
            ended = λ error' n.
                let t = go.onward none f rest (record { accepted = 0; count = 0; refusal = Some error }) (rw here (Singly.refused answered)) in
                rw (add-zero b.accepted, add-zero b.count) at t;
          }

      module _ (a : Answer) where
        -- what the others are told, with this one before them
        abbrev with_this : ReadAnswer → ReadAnswer
        with_this r = record { accepted = suc r.accepted; count = a.count + r.count; refusal = r.refusal }

        left_over : drop (b.count + a.count) later ≡ drop a.count rest
        left_over = sym (drop-drop a.count b.count later) ∙ ap (drop a.count) (drop_at (take b.count out) rest b.count front)

        written : take (b.count + a.count) later ≡ take b.count out ++ take a.count rest
        written = ap (λ (k : ℕ). take (k + a.count) later) (sym front) ∙ take-append-add (take b.count out) rest a.count

        same_told : (r : ReadAnswer) → behind b (with_this r) ≡ behind (one_more b a.count) r
        same_told r =
            let n : b.accepted + suc r.accepted ≡ b.accepted + 1 + r.accepted = omega arith in
            λ i. record { accepted = n i; count = sym (add_assoc b.count a.count r.count) i; refusal = r.refusal }

        same_bytes : (more : List ℕ) → take b.count out ++ (take a.count rest ++ more) ≡ take (b.count + a.count) later ++ more
        same_bytes more = sym (append_assoc (take b.count out) (take a.count rest) more) ∙ ap (λ (l : List ℕ). l ++ more) (sym written)

        goes_on_at : Answered Lending.all e f (drop b.count out) rest call clock (Ok a) → Going f later (one_more b a.count)
        goes_on_at answered =
            record {
              whole = whole-after answered;
              fits = fits_after answered;
              onward = λ n g more r t.
                  let others = rw left_over at t in
                  rw (← same_told r, ← same_bytes more) (go.onward none g (take a.count rest ++ more) (with_this r) (rw here (Singly.accepted answered others)));
              ended = λ error n. absurd (false≢true ((ap is_some n)));
            }

  module _ (e f : Store) (out later : List ℕ) (b d : ReadAnswer) (go : Going e out b) (none : b.refusal ≡ None) where
    -- the records that were tried were accepted, as long as none is refused
    abbrev Next : Type 0
    Next = Going f later d × (d.refusal ≡ None → d.accepted ≡ b.accepted + 1)

    settles : (rest : List ℕ) (call : Call Input) (here : drop b.accepted es ≡ Entry.request call ∷ drop (b.accepted + 1) es) (r : Result Answer Error)
        → Answered Lending.all e f (drop b.count out) rest call clock r → later ≡ take b.count out ++ rest → d ≡ joined b r → Next
    settles rest call here (Err error) answered bytes j =
        rw (bytes, j) (stopped_at e out b go none f rest call here error answered, λ n. absurd (false≢true (sym (ap is_some n))))
    settles rest call here (Ok a) answered bytes j = rw (bytes, j) (goes_on_at e out b go none f rest call here a answered, λ n. refl)

    tried_on : (entry : Entry (Call Input)) → drop b.accepted es ≡ entry ∷ drop (b.accepted + 1) es → Taken e f out later entry clock b d → Next
    tried_on Entry.bad_part here t =
        let bad : d ≡ record { accepted = b.accepted; count = b.count; refusal = Some Error.BadPart } = t.joins ∙ ap (joined b) t.tried.1.1 in
        let same : later ≡ out = t.bytes ∙ ap (λ (l : List ℕ). take b.count out ++ l) t.tried.1.0 ∙ take-append-drop b.count out in
        rw (same, t.tried.0, bad) (bad_at e out b go none here, λ n. absurd (false≢true (sym (ap is_some n))))
    tried_on (Entry.request call) here t =
        settles t.rest call here t.answer t.tried t.bytes t.joins

-- the record at a place is the first of those from there on
entry_at : (lent : List ℕ) (rs : List RequestRecord) (i : ℕ) (x : RequestRecord) → i < length rs → x ≡ get_or rs i x
    → drop i (map (entry_of lent) rs) ≡ entry_of lent x ∷ drop (i + 1) (map (entry_of lent) rs)
entry_at lent rs i x l is =
    drop-cons (map (entry_of lent) rs) i (entry_of lent x) (rw (length-map rs (entry_of lent)) l)
    ∙ rw (get_or-map (entry_of lent) rs i x, ← is, add-one)

-- ONE MORE RECORD: the read so far goes on
module _ (s₀ : Store) (out₀ : List ℕ) (rs : List RequestRecord) (lent : List ℕ) (clock : ℕ) where
  abbrev entries : List (Entry (Call Input))
  entries = map (entry_of lent) rs

  pub again : (e f : Store) (out later : List ℕ) (b d : ReadAnswer) (x : RequestRecord) (i : ℕ) → SoFar s₀ out₀ entries clock e out b
      → b.refusal ≡ None → b.accepted ≡ i → i < length rs → x ≡ get_or rs i x → Taken e f out later (entry_of lent x) clock b d
      → SoFar s₀ out₀ entries clock f later d × (d.refusal ≡ None → d.accepted ≡ i + 1)
  again e f out later b d x i h none there l is t =
      let w = not-damaged s₀ out₀ entries clock e out b h none in
      let here = entry_at lent rs b.accepted x (omega (arith, there, l)) (rw there is) in
      let next = tried_on s₀ out₀ entries clock e f out later b d (h.handled w) none (entry_of lent x) here t in
      (record { damaged = λ y. absurd (false≢true (sym y ∙ w)); handled = λ _. next.0 }, λ n. next.1 n ∙ ap (λ (k : ℕ). k + 1) there)

-- what was lent on holds what the caller's slices hold then
pub handed-back : {s : Store} {d v t : List ℕ} {p : List Float} {out later : List ℕ} {es : List (Entry (Call Input))} {clock : ℕ} {r : ReadAnswer} (e : LentSession)
    → d ≡ e.control.now → v ≡ e.words.now → p ≡ e.reals.now
    → Handed s (store_of e t) out later es clock r → Handed s (store d v p t) out later es clock r
handed-back e is_control is_words is_reals h = rw (is_control, is_words, is_reals) h
