-- RECORDS AND MESSAGES, EACH GOT BACK FROM THE OTHER, told over what the two calls promise. The theorems are in proofs/RoundTrip.antt. Assumes nothing.
use Rattle.std.specs.Prelude.{ℕ, ◌≤◌, List, ◌≡◌, length, take}
use Rattle.wire.specs.Bits.{splice}
use Rattle.event_messages.specs.Stands.{Stands, Turned}
use Rattle.event_messages.specs.declared.MessageError.{MessageError}
use Rattle.event_messages.specs.Written.{Written}
use Rattle.std.specs.Prelude.{Ok}

-- what `write_message` promises, and `read_message`
abbrev pub Writes : (interface : ℕ) → (bytes out later : List ℕ) → Written → Type 0
Writes interface bytes out later w = Turned (λ m. Stands interface bytes m) MessageError.Unsendable out later w

abbrev pub Reads : (interface : ℕ) → (message out later : List ℕ) → Written → Type 0
Reads interface message out later w = Turned (λ bytes. Stands interface bytes message) MessageError.Malformed out later w

-- these bytes are written, and nothing else
abbrev pub Gives : (bytes out later : List ℕ) → Written → Type 0
Gives bytes out later w = (w ≡ Ok (length bytes)) × (later ≡ splice out 0 bytes)

-- "gets back exactly the record"
abbrev pub ReadWritten : Type 0
ReadWritten =
    (interface n : ℕ) (bytes out later back after : List ℕ) (w : Written)
    → Writes interface bytes out later (Ok n) → Reads interface (take n later) back after w → length bytes ≤ length back → Gives bytes back after w

-- "and writing what it read gives the same bytes"
abbrev pub WrittenRead : Type 0
WrittenRead =
    (interface n : ℕ) (message out later again after : List ℕ) (w : Written)
    → Reads interface message out later (Ok n) → Writes interface (take n later) again after w → length message ≤ length again → Gives message again after w

-- how long the two are at most
abbrev pub Lengths : Type 0
Lengths = (interface : ℕ) (bytes message : List ℕ) → Stands interface bytes message → (length message ≤ 284) × (length bytes ≤ 273)
