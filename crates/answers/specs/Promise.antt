-- What is promised of a call, said of the parameters that it is lent: each has its value at entry and at exit. Assumes nothing.
use Rattle.std.specs.Prelude.{ℕ, List, Float, Result}
use Rattle.model.specs.Call.{Input, Plain, Call}
use Rattle.session.specs.View.{store, Lending}
use Rattle.session.specs.Loan.{Session, store_of}
use Rattle.session.specs.Slices.{Numbers, SharedNumbers, Reals, before, after, rows_before, rows_after}
use Rattle.answers.specs.declared.Error.{Error}
use Rattle.answers.specs.declared.Answer.{Answer}
use Rattle.answers.specs.Meets.{Handled, HandledRows, HandledControl, Answered}

-- ---- entry points: the model's answer, or 21

-- A CALL OF THE STATION, at any clock and whatever the requests and the texts are
abbrev pub Promise : (control out : Numbers) → Plain → Result Answer Error → Type 0
Promise c out call a =
    (clock : ℕ) (w : List ℕ) (r : List Float) (t : List ℕ)
    → Answered Lending.control (store c.entry.now w r t) (store c.exit.now w r t) out.entry.now out.exit.now (Call.plain call) clock a

-- one that only asks is lent no `out`, and the control words to be read
abbrev pub Reply : (control : SharedNumbers) → Plain → Result Answer Error → Type 0
Reply c call a =
    (clock : ℕ) (out w : List ℕ) (r : List Float) (t : List ℕ)
    → Answered Lending.control (store c.entry.now w r t) (store c.entry.now w r t) out out (Call.plain call) clock a

-- one that writes events and leaves the control words, which it is lent to read
abbrev pub PromiseUnchanged : (control : SharedNumbers) (out : Numbers) → Plain → Result Answer Error → Type 0
PromiseUnchanged c out call a =
    (clock : ℕ) (w : List ℕ) (r : List Float) (t : List ℕ)
    → Answered Lending.control (store c.entry.now w r t) (store c.entry.now w r t) out.entry.now out.exit.now (Call.plain call) clock a

-- one that takes devices out is lent the rows of requests too
abbrev pub PromiseRows : (control words : Numbers) (reals : Reals) (out : Numbers) → Plain → Result Answer Error → Type 0
PromiseRows c w r out call a =
    (clock : ℕ) (t : List ℕ) → Answered Lending.rows (rows_before c w r t) (rows_after c w r t) out.entry.now out.exit.now (Call.plain call) clock a

-- A CLIENT'S REQUEST, at the clock that the call is given
abbrev pub PromiseAt : (control words : Numbers) (reals : Reals) (texts out : Numbers) → Call Input → (clock : ℕ) → Result Answer Error → Type 0
PromiseAt c w r t out call clock a = Answered Lending.all (before c w r t) (after c w r t) out.entry.now out.exit.now call clock a

-- ---- the functions behind 21's test: the model's answer

abbrev pub Handles : (session : Session) (texts out : Numbers) → Call Input → (clock : ℕ) → Result Answer Error → Type 0
Handles s t out call clock a = Handled (store_of s.entry.now t.entry.now) (store_of s.exit.now t.exit.now) out.entry.now out.exit.now call clock a

abbrev pub HandledSession : (session : Session) (out later : List ℕ) → Call Input → (clock : ℕ) → Result Answer Error → Type 0
HandledSession s out later call clock a =
    let c = s.entry.now in let d = s.exit.now in
    HandledRows c.control.now c.words.now c.reals.now d.control.now d.words.now d.reals.now out later call clock a

abbrev pub HandlesRows : (session : Session) (out : Numbers) → Call Input → (clock : ℕ) → Result Answer Error → Type 0
HandlesRows s out call clock a = HandledSession s out.entry.now out.exit.now call clock a

abbrev pub HandlesControl : (control out : Numbers) → Call Input → (clock : ℕ) → Result Answer Error → Type 0
HandlesControl c out call clock a = HandledControl c.entry.now c.exit.now out.entry.now out.exit.now call clock a

-- those that write no event, whatever `out` is
abbrev pub Silent : (session : Session) (texts : Numbers) → Call Input → (clock : ℕ) → Result Answer Error → Type 0
Silent s t call clock a = (out : List ℕ) → Handled (store_of s.entry.now t.entry.now) (store_of s.exit.now t.exit.now) out out call clock a

abbrev pub SilentRows : (session : Session) → Call Input → (clock : ℕ) → Result Answer Error → Type 0
SilentRows s call clock a = (out : List ℕ) → HandledSession s out out call clock a
