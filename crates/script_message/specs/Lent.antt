-- What is promised of a line's bytes that are lent the first bytes of a buffer, as many as the script says. Assumes nothing.
use Rattle.std.specs.Prelude.{ℕ, List, Ok, Err}
use Rattle.session.specs.Slices.{Numbers, Reals, before, after}
use Rattle.answers.specs.declared.Error.{Error}
use Rattle.handshake.specs.declared.handshake.EisHandshaker.{EisHandshaker}
use Rattle.handshake_messages.specs.declared.HandshakeReceived.{HandshakeReceived}
use Rattle.handshake_messages.specs.declared.Unhanded.{Unhanded}
use Rattle.handshake_messages.specs.Reading as shaking
use Rattle.messages.specs.declared.Unhanded as session
use Rattle.messages.specs.Received.{Received, ReceivedFrom}
use Rattle.script_session.specs.Lent.{InRoom}

-- on the session
abbrev pub ReceivesIn : (control words : Numbers) (reals : Reals) (texts : Numbers) (said : ℕ) (out : Numbers) → (bytes : List ℕ) → (clock : ℕ) → Received → Type 0
ReceivesIn c w q t said out bytes clock r =
    InRoom said out.entry.now out.exit.now (λ lent later. ReceivedFrom (before c w q t) (after c w q t) lent later bytes clock r)

-- on the handshake
abbrev pub ShakesIn : EisHandshaker → (bytes : List ℕ) → (said : ℕ) (out : Numbers) → HandshakeReceived → Type 0
ShakesIn h bytes said out r = InRoom said out.entry.now out.exit.now (λ lent later. shaking.Received h bytes lent later r)

-- bytes that were not handed on to the handshake, told as those on a session are
abbrev pub unhanded : Unhanded → Received
unhanded Unhanded.Wait = Err session.Unhanded.Wait
unhanded Unhanded.NoObject = Err session.Unhanded.NoObject
unhanded (Unhanded.Malformed e) = Err (session.Unhanded.Malformed e)
unhanded Unhanded.InvalidId = Ok (record { answer = Err Error.InvalidId; taken = 0 })
