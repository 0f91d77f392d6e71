-- The code's values in the terms of the definitions, and what a call promises. Assumes nothing.
use Rattle.std.specs.Prelude.{ℕ, ◌≤◌, Bool, true, false, cond, List, map, ◌≡◌, leb, length, take, replicate}
use Rattle.std.specs.Prelude.{Some, None, Ok, Err}
use Rattle.std.specs.Prelude as rust
use Rattle.std.proofs.Math.Option.{Option, none, some}
use Rattle.eiproto.specs.Told.{told}
use Rattle.eiproto.specs.declared.eiproto_enum.ContextType.{ContextType}
use Rattle.wire.specs.Bits.{splice}
use Rattle.handshake.specs.Handshake as paper
use Rattle.handshake.specs.declared.handshake.Name.{Name}
use Rattle.handshake.specs.declared.handshake.EisHandshaker.{EisHandshaker}
use Rattle.handshake.specs.declared.handshake.HandshakeMessage.{HandshakeMessage}
use Rattle.handshake.specs.declared.handshake.EisHandshakeResp.{EisHandshakeResp}
use Rattle.handshake.specs.declared.handshake.HandshakeError.{HandshakeError}
use Rattle.handshake.specs.declared.handshake.HandshakeAnswer.{HandshakeAnswer}

-- ---- a handshake

unfoldable pub name_of : Name → Option (List ℕ)
name_of n = cond n.given (some (take n.length n.bytes)) none

-- the versions, an interface's by its number: none where none was negotiated
abbrev pub versions_of : List (rust.Option ℕ) → List (Option ℕ)
versions_of rows = map told rows

unfoldable pub view_of : EisHandshaker → paper.Handshake
unfolding name_of
view_of h =
    record {
      name = name_of h.name;
      context_type = told h.context;
      versions = versions_of h.interfaces;
      initial_serial = h.serial;
      next_id = h.next;
    }

-- "21 BAD_STATE: a stored count above its limit". A handshake stores one count, the length of the name, given or not
unfoldable pub is_sound : EisHandshaker → Bool
is_sound h = leb h.name.length 254

-- ---- requests and answers

-- the lent text counts for Name, InterfaceVersion and Other alone
abbrev pub request_of : HandshakeMessage → (text : List ℕ) → paper.Message
request_of (HandshakeMessage.HandshakeVersion v) text = paper.Message.HandshakeVersion v
request_of HandshakeMessage.Name text = paper.Message.Name text
request_of (HandshakeMessage.ContextType c) text = paper.Message.Context c
request_of (HandshakeMessage.InterfaceVersion v) text = paper.Message.InterfaceVersion text v
request_of HandshakeMessage.Finish text = paper.Message.Finish
request_of HandshakeMessage.Other text = paper.Message.Other text

-- the numbers of the refusals
abbrev pub number : HandshakeError → ℕ
number HandshakeError.NonHandshakeEvent = 7
number HandshakeError.DuplicateEvent = 8
number HandshakeError.MissingInterface = 9
number HandshakeError.BadUtf8 = 10
number HandshakeError.NameLong = 11
number HandshakeError.ShortOut = 19
number HandshakeError.IdsSpent = 20
number HandshakeError.BadState = 21

unfoldable pub response_of : EisHandshakeResp → paper.Response
unfolding name_of
response_of s =
    record {
      connection = s.connection;
      name = name_of s.name;
      context_type = s.context;
      versions = versions_of s.interfaces;
      serial = s.serial;
      next_id = s.next;
    }

-- how a call ends: `Ok(None)`, `Ok(Some(..))` and `Err(..)` of the source
abbrev pub HandshakeOutcome : Type 0
HandshakeOutcome = rust.Result (rust.Option EisHandshakeResp) HandshakeError

unfoldable pub outcome_of : HandshakeOutcome → paper.Result
unfolding response_of
outcome_of (Ok None) = paper.Result.accepted
outcome_of (Ok (Some s)) = paper.Result.finished (response_of s)
outcome_of (Err e) = paper.Result.refused (number e)

abbrev pub is_refusal : HandshakeOutcome → Bool
is_refusal (Ok s) = false
is_refusal (Err e) = true

abbrev pub is_finished : HandshakeOutcome → Bool
is_finished (Ok None) = false
is_finished (Ok (Some s)) = true
is_finished (Err e) = false

-- the blank response
unfoldable pub no_name : Name
no_name = record { bytes = replicate 254 0; length = 0; given = false }

unfoldable pub no_interfaces : List (rust.Option ℕ)
no_interfaces = replicate 12 None

unfoldable pub no_response : EisHandshakeResp
unfolding no_name no_interfaces
no_response = record { connection = 0; name = no_name; context = ContextType.Receiver; interfaces = no_interfaces; serial = 0; next = 0 }

-- the response that an outcome tells; the blank one where it tells none
abbrev pub response_in : HandshakeOutcome → EisHandshakeResp
response_in (Ok None) = no_response
response_in (Ok (Some s)) = s
response_in (Err e) = no_response

abbrev pub unfinished : EisHandshaker → HandshakeOutcome → (count : ℕ) → HandshakeAnswer
unfinished h outcome count = record { handshaker = h; outcome = outcome; count = count }

-- the answer of a call that writes nothing: a refusal hands back the very handshake
abbrev pub quiet : EisHandshaker → rust.Result EisHandshaker HandshakeError → HandshakeAnswer
quiet h (Ok g) = unfinished g (Ok None) 0
quiet h (Err e) = unfinished h (Err e) 0

-- ---- promises

-- the answer is the step's, and so is every byte of the buffer: the step's bytes stand at its start, and the rest is as it was
pub record Meets (out later : List ℕ) (s : paper.Step) (r : HandshakeAnswer) : Type 0 where
  pub handshake : view_of r.handshaker ≡ s.handshake
  pub outcome : outcome_of r.outcome ≡ s.outcome
  pub count : r.count ≡ length s.bytes
  pub buffer : later ≡ splice out 0 s.bytes
  pub sound : is_sound r.handshaker ≡ true
  pub named : (response_in r.outcome).name.length ≤ 254

-- of a call on a handshake: besides, "a refusal returns the session unchanged", and that is the very handshake
pub record Done (h : EisHandshaker) (out later : List ℕ) (s : paper.Step) (r : HandshakeAnswer) : Type 0 where
  pub meets : Meets out later s r
  pub kept : is_refusal r.outcome ≡ true → r.handshaker ≡ h

-- a request that writes nothing, whatever the buffer
abbrev pub Quiet : EisHandshaker → paper.Message → rust.Result EisHandshaker HandshakeError → Type 0
Quiet h request r = (out : List ℕ) → Done h out out (paper.handle_request (view_of h) request (length out)) (quiet h r)

-- 21 before all else
pub record Handled (h : EisHandshaker) (request : paper.Message) (out later : List ℕ) (r : HandshakeAnswer) : Type 0 where
  pub damaged : is_sound h ≡ false → (r ≡ unfinished h (Err HandshakeError.BadState) 0) × (later ≡ out)
  pub done : is_sound h ≡ true → Done h out later (paper.handle_request (view_of h) request (length out)) r
