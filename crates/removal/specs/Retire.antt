-- Objects that go. Assumes nothing.
use Rattle.std.specs.Prelude.{ℕ, ◌≡◌, List, ◌∷◌, Float, length}
use Rattle.model.specs.Call.{Plain}
use Rattle.model.specs.Session.{view}
use Rattle.model.specs.Edit.{Edit}
use Rattle.model.specs.Decide.{destroyed, retire_seat, decide_plain}
use Rattle.control.specs.Control.{connection_of}
use Rattle.session.specs.Loan.{Session}
use Rattle.session.specs.Slices.{Numbers}
use Rattle.session.specs.View.{store, session}
use Rattle.session.specs.Enact.{EnactedRows}
use Rattle.events.specs.Events.{Sends}

-- destroyed is sent for each, the last serial is the last of theirs, and the edits take them out
pub record Retired (c w : List ℕ) (r : List Float) (d v : List ℕ) (q : List Float) (out later objects : List ℕ) (edits : List Edit) (count : ℕ) : Type 0 where
  pub sent : Sends out later 0 (destroyed (connection_of c).last_serial objects) count
  pub enacted : EnactedRows c w r d v q (Edit.raise (length objects) ∷ edits)

-- the same, said of the slices that a function is lent
abbrev pub Retires : (session : Session) (out : Numbers) → (objects : List ℕ) → List Edit → (count : ℕ) → Type 0
Retires s out objects edits count =
    let c = s.entry.now in let d = s.exit.now in
    Retired c.control.now c.words.now c.reals.now d.control.now d.words.now d.reals.now out.entry.now out.exit.now objects edits count

-- the model retires the seat at this call, whatever the requests and the texts are
abbrev pub Retirement : (call : Plain) (clock seat : ℕ) (control : List ℕ) → Type 0
Retirement call clock seat c =
    (w : List ℕ) (r : List Float) (t : List ℕ) → let v = view (session (store c w r t)) in decide_plain v clock call ≡ retire_seat v seat
