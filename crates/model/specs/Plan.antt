-- What a call comes to, payload unseen: its outcome, the events that it sends, the edits that it makes. Assumes nothing.
use Rattle.std.specs.Prelude.{ℕ, Bool, List, [], ◌∷◌, ◌++◌}
use Rattle.wire.specs.declared.event.Event.{Event}
use Rattle.wire.specs.Record.{event_record}
use Rattle.model.specs.Edit.{Edit}

-- an event, the object that it is sent on, and the text beside it
pub record Sent : Type 0 where
  pub object : ℕ
  pub event : Event
  pub text : List ℕ

-- an event that has no text
abbrev pub on : ℕ → Event → Sent
on object event = record { object = object; event = event; text = [] }

-- the records of events, one behind the other
unfoldable pub records : List Sent → List ℕ
unfolding event_record
records [] = []
records (e ∷ es) = event_record e.object e.event e.text ++ records es

pub data Result : Type 0 where
  -- a call that answers nothing else; an ignored request too
  accepted : Result
  -- a refusal by its number, other than 2
  refused : (number : ℕ) → Result
  -- "2 INTERFACE_VERSION, with interface and version"
  refused_version : (interface version : ℕ) → Result
  -- the id that `add_seat` gives, and `add_device`
  seat : (id : ℕ) → Result
  device : (id : ℕ) → Result
  -- `last_serial`, `interface_version`
  value : ℕ → Result
  -- `has_interface`, `has_capability`
  truth : Bool → Result
  -- `interface_version` of what was not negotiated; "NONE when none is queued"
  none : Result
  -- `next_request` gives a request
  given : Result

-- the number of a refusal, 0 for none
unfoldable pub refusal : Result → ℕ
refusal Result.accepted = 0
refusal (Result.refused n) = n
refusal (Result.refused_version i v) = 2
refusal (Result.seat id) = 0
refusal (Result.device id) = 0
refusal (Result.value n) = 0
refusal (Result.truth b) = 0
refusal Result.none = 0
refusal Result.given = 0

pub record Plan : Type 0 where
  pub outcome : Result
  pub events : List Sent
  pub edits : List Edit

unfoldable pub answer : Result → Plan
answer o = record { outcome = o; events = []; edits = [] }

unfoldable pub refuse : ℕ → Plan
unfolding answer
refuse n = answer (Result.refused n)

-- "accepted and does nothing"
unfoldable pub ignore : Plan
unfolding answer
ignore = answer Result.accepted

unfoldable pub edit : List Edit → Plan
edit es = record { outcome = Result.accepted; events = []; edits = es }

unfoldable pub send : List Sent → List Edit → Plan
send events edits = record { outcome = Result.accepted; events = events; edits = edits }
