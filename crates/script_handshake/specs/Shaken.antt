-- What a client's line is to the handshake, and what is promised of it. Assumes nothing.
use Rattle.std.specs.Prelude.{ℕ, ◌≡◌, true, false, List, length, Result, Ok, Err}
use Rattle.eiproto.specs.Enum.{context_type_of}
use Rattle.eiproto.specs.declared.eiproto_enum.ContextType.{ContextType}
use Rattle.eiproto.specs.declared.eiproto_enum.InvalidVariant.{InvalidVariant}
use Rattle.requests.specs.declared.eis.HandshakeRequest.{HandshakeRequest}
use Rattle.requests.specs.declared.eis.Request.{Request}
use Rattle.session.specs.Slices.{Numbers, SharedNumbers}
use Rattle.handshake.specs.Handshake as paper
use Rattle.handshake.specs.View.{request_of, is_finished, response_in, Meets, Handled}
use Rattle.handshake.specs.declared.handshake.EisHandshaker.{EisHandshaker}
use Rattle.handshake.specs.declared.handshake.HandshakeMessage.{HandshakeMessage}
use Rattle.handshake.specs.declared.handshake.HandshakeAnswer.{HandshakeAnswer}
use Rattle.answers.specs.declared.Answer.{Answer}
use Rattle.answers.specs.declared.Error.{Error}
use Rattle.converter.specs.Next.{Begins}
use Rattle.script_session.specs.Lent.{InRoom}

-- a context type by its number; a line that has another number there is no call (`read_as` of script)
abbrev pub context_case : Result ContextType InvalidVariant → ContextType
context_case (Ok c) = c
context_case (Err n) = ContextType.Receiver

abbrev pub context_type : ℕ → ContextType
context_type n = context_case (context_type_of n)

abbrev pub handshake_message : HandshakeRequest → HandshakeMessage
handshake_message (HandshakeRequest.HandshakeVersion v) = HandshakeMessage.HandshakeVersion v
handshake_message HandshakeRequest.Finish = HandshakeMessage.Finish
handshake_message (HandshakeRequest.ContextType n) = HandshakeMessage.ContextType (context_type n)
handshake_message HandshakeRequest.Name = HandshakeMessage.Name
handshake_message (HandshakeRequest.InterfaceVersion v) = HandshakeMessage.InterfaceVersion v

-- WHAT A CLIENT'S REQUEST IS TO THE HANDSHAKE: one of its own, or another
abbrev pub message_of : Request → HandshakeMessage
message_of (Request.Handshake r) = handshake_message r
message_of (Request.Connection r) = HandshakeMessage.Other
message_of Request.PingpongDone = HandshakeMessage.Other
message_of (Request.Seat r) = HandshakeMessage.Other
message_of (Request.Device r) = HandshakeMessage.Other
message_of (Request.Interface r) = HandshakeMessage.Other

-- a fresh handshake, in the room that the script says
abbrev pub StartsIn : (serial said : ℕ) (out : Numbers) → HandshakeAnswer → Type 0
StartsIn serial said out r = InRoom said out.entry.now out.exit.now (λ lent later. Meets lent later (paper.start serial (length lent)) r)

-- a request of the handshake, with the line's text
abbrev pub HandledIn : EisHandshaker → HandshakeMessage → (text : SharedNumbers) (said : ℕ) (out : Numbers) → HandshakeAnswer → Type 0
HandledIn h request text said out r = InRoom said out.entry.now out.exit.now (λ lent later. Handled h (request_of request text.entry.now) lent later r)

-- the control words c become those of a session that begins where a Finish succeeded, and are left alone otherwise
pub record Opens (c d : List ℕ) (a : HandshakeAnswer) : Type 0 where
  pub finished : is_finished a.outcome ≡ true → (r : Result Answer Error) × Begins c d (response_in a.outcome) r
  pub unfinished : is_finished a.outcome ≡ false → d ≡ c
