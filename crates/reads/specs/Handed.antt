-- What is promised of a whole read, and of one record of it. Assumes nothing.
use Rattle.std.specs.Prelude.{ℕ, suc, ◌+◌, ◌≡◌, Bool, true, false, ◌&&◌, List, [], ◌∷◌, ◌++◌, ltb, take, drop, Option, Some, None, Result, Ok, Err}
use Rattle.model.specs.Call.{Input, Call}
use Rattle.model_reads.specs.Read.{Entry}
use Rattle.session.specs.View.{Store, is_whole, Lending}
use Rattle.session.specs.Slices.{Numbers, Reals, before, after}
use Rattle.answers.specs.declared.Error.{Error}
use Rattle.answers.specs.declared.Answer.{Answer}
use Rattle.answers.specs.Meets.{Answered}
use Rattle.reads.specs.declared.ReadAnswer.{ReadAnswer}

-- ---- what is told

-- nothing tried yet
abbrev pub opened : Bool → ReadAnswer
opened true = record { accepted = 0; count = 0; refusal = None }
opened false = record { accepted = 0; count = 0; refusal = Some Error.BadState }

abbrev pub unrefused : Option Error → Bool
unrefused None = true
unrefused (Some e) = false

-- whether a record of n is left to be tried
abbrev pub goes_on : ReadAnswer → (n : ℕ) → Bool
goes_on b n = unrefused b.refusal && ltb b.accepted n

-- "the number accepted (ignored ones included), the number of event bytes these wrote"
abbrev pub one_more : ReadAnswer → (count : ℕ) → ReadAnswer
one_more b count = record { accepted = b.accepted + 1; count = b.count + count; refusal = None }

-- the answer of one record joined to those before it
abbrev pub joined : ReadAnswer → Result Answer Error → ReadAnswer
joined b (Ok a) = one_more b a.count
joined b (Err e) = record { accepted = b.accepted; count = b.count; refusal = Some e }

-- ---- a read: s are the slices before it, e those after it, out and later the lent `out`

-- "Session, bytes and outcomes equal those of the requests tried, handed in singly, each with what is left of `out`": there are single calls, each as
-- its contract has it, that lead from the slices before the read to those after it
pub data Singly (clock : ℕ) : (s e : Store) (out later : List ℕ) → List (Entry (Call Input)) → ReadAnswer → Type 0 where
  -- no record is left
  none : {s : Store} {out : List ℕ} → Singly clock s s out out [] (opened true)
  -- "refused before it is tried", and "nothing after that is tried"
  bad_part : {s : Store} {out : List ℕ} {es : List (Entry (Call Input))}
      → Singly clock s s out out (Entry.bad_part ∷ es) (record { accepted = 0; count = 0; refusal = Some Error.BadPart })
  refused : {s e : Store} {out later : List ℕ} {call : Call Input} {es : List (Entry (Call Input))} {error : Error}
      → Answered Lending.all s e out later call clock (Err error)
      → Singly clock s e out later (Entry.request call ∷ es) (record { accepted = 0; count = 0; refusal = Some error })
  -- the others get the session that it returns, and what is left of `out`
  accepted : {s m e : Store} {out mid later : List ℕ} {call : Call Input} {es : List (Entry (Call Input))} {answer : Answer} {others : ReadAnswer}
      → Answered Lending.all s m out mid call clock (Ok answer)
      → Singly clock m e (drop answer.count mid) later es others
      → Singly clock s e out (take answer.count mid ++ later) (Entry.request call ∷ es)
      (record { accepted = suc others.accepted; count = answer.count + others.count; refusal = others.refusal })

-- A WHOLE READ: 21 once and first, which hands everything back as it was
pub record Handed (s e : Store) (out later : List ℕ) (entries : List (Entry (Call Input))) (clock : ℕ) (r : ReadAnswer) : Type 0 where
  pub damaged : is_whole s ≡ false → (r ≡ opened false) × ((e ≡ s) × (later ≡ out))
  pub handled : is_whole s ≡ true → Singly clock s e out later entries r

-- ---- one record behind those accepted: its answer, joined to theirs, is that of the single call with what is left of `out`

-- what becomes of a record: `rest` is what is left of `out`, `later` the same behind the call
abbrev pub Tried : Entry (Call Input) → (clock : ℕ) (s e : Store) (rest later : List ℕ) (answer : Result Answer Error) → Type 0
Tried Entry.bad_part clock s e rest later a = (e ≡ s) × ((later ≡ rest) × (a ≡ Err Error.BadPart))
Tried (Entry.request call) clock s e rest later a = Answered Lending.all s e rest later call clock a

pub record Taken (s e : Store) (out later : List ℕ) (entry : Entry (Call Input)) (clock : ℕ) (so_far r : ReadAnswer) : Type 0 where
  pub answer : Result Answer Error
  pub rest : List ℕ
  pub joins : r ≡ joined so_far answer
  pub tried : Tried entry clock s e (drop so_far.count out) rest answer
  pub bytes : later ≡ take so_far.count out ++ rest

-- ---- the same of the slices that a function is lent

abbrev pub Opens : (control words : Numbers) (reals : Reals) (texts : Numbers) → ReadAnswer → Type 0
Opens c w q t r = (r ≡ opened (is_whole (before c w q t))) × (after c w q t ≡ before c w q t)

abbrev pub Takes : (control words : Numbers) (reals : Reals) (texts out : Numbers) → Entry (Call Input) → (clock : ℕ) (so_far r : ReadAnswer) → Type 0
Takes c w q t out entry clock b r = Taken (before c w q t) (after c w q t) out.entry.now out.exit.now entry clock b r

abbrev pub HandsOver : (control words : Numbers) (reals : Reals) (texts out : Numbers) → List (Entry (Call Input)) → (clock : ℕ) → ReadAnswer → Type 0
HandsOver c w q t out entries clock r = Handed (before c w q t) (after c w q t) out.entry.now out.exit.now entries clock r
