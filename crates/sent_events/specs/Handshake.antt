-- So has every event of a handshake, also those that stand beside a refusal with 9. The theorems are in proofs/Handshakes.antt. Assumes nothing.
use Rattle.std.specs.Prelude.{ℕ, ◌≤◌, length}
use mathlib.Core.List.{List, Memᴰ}
use Rattle.eiproto.specs.Interface.{interface_count}
use Rattle.handshake.specs.Handshake.{Handshake, Message, Step, handle_request}
use Rattle.handshake.specs.Run.{Call, trail}
use Rattle.sent_events.specs.Sendable.{Sendable}

-- "0 for the handshake", whose events carry id 0
pub data Shaking : (interface id : ℕ) → Type 0 where
  handshake : Shaking 0 0

-- of every call on a handshake that knows versions of the twelve interfaces and no more
unfoldable pub HandshakeIsSendable : Type 0
unfolding handle_request
HandshakeIsSendable =
    (h : Handshake) (m : Message) (room : ℕ) → length h.versions ≤ interface_count → Sendable Shaking (handle_request h m room).bytes

-- of every call from a handshake's start on, the start too
unfoldable pub HandshakesAreSendable : Type 0
unfolding trail
HandshakesAreSendable = (serial room : ℕ) (cs : List Call) (x : Step) → Memᴰ x (trail serial room cs) → Sendable Shaking x.bytes
