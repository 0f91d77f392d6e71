-- What an exported function tells: an answer that the module's own call promises, as numbers. Assumes nothing.
use Rattle.std.specs.Prelude.{ℕ, ◌≤◌, ◌≡◌, Bool, List, [], map, eqb, Result}
use Rattle.std.proofs.Math.Option.{Option}
use Rattle.std.specs.Borrow.{MutBor}
use denote.Triple.Both.{Both}
use Rattle.model.specs.Call.{Input, Call}
use Rattle.session.specs.Slices.{Numbers, SharedNumbers, Reals, SharedReals, before, after, rows_before, rows_after, text}
use Rattle.answers.specs.Answer.{outcome_of, count_of}
use Rattle.answers.specs.declared.Answer.{Answer}
use Rattle.answers.specs.declared.Error.{Error}
use Rattle.client_calls.specs.Request.{AsksRows}
use Rattle.reads.specs.declared.ReadAnswer.{ReadAnswer}
use Rattle.reads.specs.Record.{entry_of}
use Rattle.reads.specs.Handed.{HandsOver}
use Rattle.lent_read.specs.Numbers.{records_in, are_requests}
use Rattle.answer_numbers.specs.Numbers.{bad_argument, status_of, value_of, first_outcome, version_in}

-- ---- promises

-- THE NUMBERS ARE THOSE OF AN ANSWER that the call promises; Rest is what else is told of it
pub record Replies (Promised : Result Answer Error → Type 0) (status : ℕ) (Rest : Result Answer Error → Type 0) : Type 0 where
  pub answer : Result Answer Error
  pub promised : Promised answer
  pub status_is : status ≡ status_of answer
  pub rest : Rest answer

-- a number that a function writes for its caller
abbrev pub Number : Type 0
Number = Both (MutBor ℕ) (MutBor ℕ)

-- the status alone
abbrev pub Told : (Result Answer Error → Type 0) → (status : ℕ) → Type 0
Told P status = Replies P status (λ a. Unit {0})

-- of a timed request: whatever the version of its interface is
abbrev pub ToldTimed : (control words : Numbers) (reals : Reals) → (interface : ℕ) → Input → (status : ℕ) → Type 0
ToldTimed c w r interface input status = Told (λ a. (version : ℕ) → AsksRows c w r (Call.timed interface version input) a) status

-- how many bytes of events were written, too
abbrev pub Sent : (Result Answer Error → Type 0) → (status : ℕ) (count : Number) → Type 0
Sent P status count = Replies P status (λ a. count.exit.now ≡ count_of a)

-- an id besides
abbrev pub Gave : (Result Answer Error → Type 0) → (status : ℕ) (count value : Number) → Type 0
Gave P status count value = Replies P status (λ a. (count.exit.now ≡ count_of a) × (value.exit.now ≡ value_of a))

-- what was asked for
abbrev pub Valued : (Result Answer Error → Type 0) → (status : ℕ) (value : Number) → Type 0
Valued P status value = Replies P status (λ a. value.exit.now ≡ value_of a)

-- the details of refusal 2
abbrev pub Detailed : (interface version : Number) → Result Answer Error → Type 0
Detailed interface version a =
    (interface.exit.now ≡ (version_in (outcome_of a)).interface) × (version.exit.now ≡ (version_in (outcome_of a)).version)

-- the answer of a whole read, with the details of refusal 2
pub record ToldRead (Promised : ReadAnswer → Type 0) (status : ℕ) (accepted count interface version : Number) : Type 0 where
  pub answer : ReadAnswer
  pub promised : Promised answer
  pub status_is : status ≡ status_of (first_outcome answer.refusal)
  pub accepted_is : accepted.exit.now ≡ answer.accepted
  pub count_is : count.exit.now ≡ answer.count
  pub interface_is : interface.exit.now ≡ (version_in (outcome_of (first_outcome answer.refusal))).interface
  pub version_is : version.exit.now ≡ (version_in (outcome_of (first_outcome answer.refusal))).version

-- ---- numbers that are no case of their enum

-- a name or an explanation, where `given` is 1
abbrev pub text_if : (given : ℕ) → SharedNumbers → Option (List ℕ)
text_if given t = text (eqb given 1) t

-- a state of a key or a button is 0 or 1; behind another nothing is touched
abbrev pub Pressed : (state status : ℕ) → (kept told : Type 0) → Type 0
Pressed state status Kept Fine = (state ≤ 1 → Fine) × (2 ≤ state → (status ≡ bad_argument) × Kept)

-- the control words and the rows are as they were
abbrev pub KeptRows : (control words : Numbers) (reals : Reals) → Type 0
KeptRows c w r = rows_after c w r [] ≡ rows_before c w r []

-- a slice is
abbrev pub Kept : Numbers → Type 0
Kept s = s.exit.now ≡ s.entry.now

-- nothing is written either, and the counts and ids are 0
abbrev pub Unsent : (control out : Numbers) (count value : Number) → Type 0
Unsent c out count value = Kept c × (Kept out × ((count.exit.now ≡ 0) × (value.exit.now ≡ 0)))

abbrev pub UnsentRows : (control words : Numbers) (reals : Reals) (out : Numbers) (count : Number) → Type 0
UnsentRows c w r out count = KeptRows c w r × (Kept out × (count.exit.now ≡ 0))

-- whether the two slices of a read hold whole records and each is a request's
abbrev pub of_requests : (records : SharedNumbers) (points : SharedReals) → Bool
of_requests records points = are_requests records.entry.now points.entry.now

-- a whole read of the records that the two slices hold, with the texts lent beside them
abbrev pub ReadsIn : (control words : Numbers) (reals : Reals) (texts : Numbers) (records : SharedNumbers) (points : SharedReals) (lent : SharedNumbers) (clock : ℕ) (out : Numbers) → ReadAnswer → Type 0
ReadsIn c w r t records points lent clock out a =
    HandsOver c w r t out (map (entry_of lent.entry.now) (records_in records.entry.now points.entry.now)) clock a

-- of a whole read nothing is tried
abbrev pub Unread : (control words : Numbers) (reals : Reals) (texts out : Numbers) (accepted count interface version : Number) → Type 0
Unread c w r t out accepted count interface version =
    (after c w r t ≡ before c w r t)
    × (Kept out × ((accepted.exit.now ≡ 0) × ((count.exit.now ≡ 0) × ((interface.exit.now ≡ 0) × (version.exit.now ≡ 0)))))
