-- "No silent version 1": what was not negotiated is not made, and no seat offers it. proofs/Negotiated.antt proves the statements. Assumes nothing.
use Rattle.std.specs.Prelude.{ℕ, ◌≡◌, true, false, List, [], ◌∷◌, ◌++◌, map}
use Rattle.std.proofs.Math.Option.{Option, some}
use Rattle.eiproto.specs.Bits.{bit, every, contains}
use Rattle.wire.specs.declared.event.Event.{Event}
use Rattle.model.specs.Call.{Load, Plain, Turn, Split, split}
use Rattle.model.specs.Session.{Seat, Session, fresh, view}
use Rattle.model.specs.Plan.{Result, Sent, on}
use Rattle.model.specs.Decide.{version, negotiated_capabilities, seat_of}
use Rattle.model.specs.Step.{unchanged, step}
use Rattle.model.specs.Reachable.{session_after}
use Rattle.model.specs.Destroyed.{plainly}

-- The versions are those of the handshake, for good. "A seat's set is cut down to the negotiated capabilities", and no device lists an interface for another
pub record Cut {P : Type 0} (versions : List (Option ℕ)) (s : Session P) : Type 0 where
  pub same : s.connection.versions ≡ versions
  pub seats : every (λ x. contains (negotiated_capabilities s.connection) x.capabilities) s.connection.seats ≡ true
  pub devices : every (λ d. every (λ i. bit i.capability (negotiated_capabilities s.connection)) d.interfaces) s.devices ≡ true

-- in every session that calls lead to
unfoldable pub ReachableCut : Type 0
unfolding session_after split fresh
ReachableCut = (c s n : ℕ) (vs : List (Option ℕ)) (ts : List Turn) → Cut vs (session_after (map split ts) (fresh {P = Load} c s n vs))

-- "The lookup behind it now says that there is none": a call of any session sends no interface but with the version that was negotiated for it
unfoldable pub InterfaceNegotiated : Type 0
unfolding step version
InterfaceNegotiated =
    (t : Split Load) (s : Session Load) (before after : List Sent) (device id interface v : ℕ) →
    (step t s).events ≡ before ++ (on device (Event.Interface id interface v) ∷ after) → version s.connection interface ≡ some v

-- the client's requests for capabilities of a seat
pub data Wants (seat capabilities : ℕ) : Plain → Type 0 where
  bind : Wants seat capabilities (Plain.bind seat capabilities)
  request_device : Wants seat capabilities (Plain.request_device seat capabilities)

-- "so Bind of any other is 3"
unfoldable pub BindOther : Type 0
unfolding step session_after split fresh view seat_of contains negotiated_capabilities unchanged
BindOther =
    (c s n : ℕ) (vs : List (Option ℕ)) (ts : List Turn) (now room seat caps : ℕ) (x : Seat) (r : Plain) → Wants seat caps r →
    let before = session_after (map split ts) (fresh {P = Load} c s n vs) in
    seat_of seat (view before) ≡ some x → contains (negotiated_capabilities before.connection) caps ≡ false →
    step (plainly Load.None now room r) before ≡ unchanged before (Result.refused 3)

-- A set whose capabilities are all negotiated is stored as it is given, as the source does it
unfoldable pub CutNothing : Type 0
unfolding step contains negotiated_capabilities
CutNothing =
    (now room id caps : ℕ) (name : Option (List ℕ)) (s : Session Load) →
    let r = step (plainly Load.None now room (Plain.add_seat name caps)) s in
    contains (negotiated_capabilities s.connection) caps ≡ true → r.outcome ≡ Result.seat id →
    r.session.connection.seats ≡ s.connection.seats ++ (record { id = id; capabilities = caps } ∷ [])
