-- What is promised of an event's record or message that is lent the first bytes of a buffer, as many as the script says. Assumes nothing.
use Rattle.std.specs.Prelude.{ℕ, List}
use Rattle.session.specs.Slices.{Numbers}
use Rattle.event_messages.specs.declared.MessageError.{MessageError}
use Rattle.event_messages.specs.Written.{Written}
use Rattle.event_messages.specs.Stands.{Stands, Turned}
use Rattle.script_asked.specs.declared.Event.{Event}
use Rattle.script_session.specs.Lent.{InRoom}

-- "a record turned into its message", and "a message turned into its record": the bytes are the line's own
abbrev pub EventTurned : Event → (bytes lent later : List ℕ) → Written → Type 0
EventTurned (Event.Write interface) bytes lent later r = Turned (Stands interface bytes) MessageError.Unsendable lent later r
EventTurned (Event.Read interface) bytes lent later r = Turned (λ found. Stands interface found bytes) MessageError.Malformed lent later r

abbrev pub TurnsIn : Event → (bytes : List ℕ) → (said : ℕ) (out : Numbers) → Written → Type 0
TurnsIn event bytes said out r = InRoom said out.entry.now out.exit.now (λ lent later. EventTurned event bytes lent later r)
