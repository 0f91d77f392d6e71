-- Whole lists of calls on a handshake, requests and messages among them, and what holds of them. proofs/Runs.antt proves the statements. Assumes nothing.
use Rattle.std.specs.Prelude.{ℕ, ◌≡◌, Bool, true, false, cond, List, [], ◌∷◌, map, length, take}
use Rattle.std.specs.Prelude.{Ok, Err}
use Rattle.std.specs.Prelude as rust
use Rattle.handshake.specs.Handshake as paper
use Rattle.handshake.specs.View.{view_of, is_sound, request_of, Handled}
use Rattle.handshake.specs.Run.{Call, HandshakeExchange, call_of, seen_in, seen}
use Rattle.handshake.specs.declared.handshake.EisHandshaker.{EisHandshaker}
use Rattle.handshake.specs.declared.handshake.HandshakeAnswer.{HandshakeAnswer}
use Rattle.handshake_messages.specs.Reading.{request_in, handshake_reading, Told, Received}
use Rattle.parse.specs.declared.First.{First}
use Rattle.handshake_messages.specs.declared.Unhanded.{Unhanded}
use Rattle.handshake_messages.specs.declared.HandshakeReceived.{HandshakeReceived}

-- ---- the definitions

-- what a call is given: a request, or a slice's bytes; and the length of the `out` that is lent with it
pub data TurnGiven : Type 0 where
  request : Call → TurnGiven
  message : (bytes : List ℕ) (room : ℕ) → TurnGiven

-- what is seen of it: the handshake after it, the outcome and the event bytes; of a message besides what became of it, with the ParseError, and how many bytes were taken
pub data TurnSeen : Type 0 where
  request : paper.Step → TurnSeen
  message : Told → (taken : ℕ) → paper.Step → TurnSeen

abbrev pub step_in : TurnSeen → paper.Step
step_in (TurnSeen.request s) = s
step_in (TurnSeen.message t n s) = s

abbrev pub is_refused : paper.Result → Bool
is_refused paper.Result.accepted = false
is_refused (paper.Result.refused n) = true
is_refused (paper.Result.finished r) = false

-- nothing was handed on
abbrev pub nothing : Unhanded → paper.Handshake → TurnSeen
nothing why h = TurnSeen.message (Err why) 0 (record { handshake = h; outcome = paper.Result.accepted; bytes = [] })

-- a request of so many bytes was: "a refused message takes nothing"
abbrev pub handed : (length : ℕ) → paper.Step → TurnSeen
handed n s = TurnSeen.message (Ok tt) (cond (is_refused s.outcome) 0 n) s

unfoldable pub message_turn : rust.Result First Unhanded → paper.Handshake → (message : List ℕ) → (room : ℕ) → TurnSeen
unfolding request_in paper.handle_request
message_turn (Ok x) h m room = handed x.length (paper.handle_request h (request_in x.arguments (take x.length m)) room)
message_turn (Err why) h m room = nothing why h

unfoldable pub turn : paper.Handshake → TurnGiven → TurnSeen
unfolding message_turn paper.handle_request
turn h (TurnGiven.request c) = TurnSeen.request (paper.handle_request h c.request c.room)
turn h (TurnGiven.message m room) = message_turn (handshake_reading h m) h m room

-- each call gets the handshake that the one before returned
unfoldable pub turns : List TurnGiven → paper.Handshake → List TurnSeen
unfolding turn
turns [] h = []
turns (g ∷ gs) h = turn h g ∷ turns gs (step_in (turn h g)).handshake

-- ---- the code

-- a call of `pending_request`: what it is given, and what it leaves
pub record MessageExchange : Type 0 where
  pub bytes : List ℕ
  pub out : List ℕ
  pub later : List ℕ
  pub received : HandshakeReceived

-- a call of `handle_request`, or of `pending_request`
pub data HandshakeTurn : Type 0 where
  request : HandshakeExchange → HandshakeTurn
  message : MessageExchange → HandshakeTurn

abbrev pub answer_of : HandshakeTurn → HandshakeAnswer
answer_of (HandshakeTurn.request x) = x.answer
answer_of (HandshakeTurn.message x) = x.received.answer

abbrev pub given_of : HandshakeTurn → TurnGiven
given_of (HandshakeTurn.request x) = TurnGiven.request (call_of x)
given_of (HandshakeTurn.message x) = TurnGiven.message x.bytes (length x.out)

abbrev pub seen_of : HandshakeTurn → TurnSeen
seen_of (HandshakeTurn.request x) = TurnSeen.request (seen x)
seen_of (HandshakeTurn.message x) = TurnSeen.message x.received.told x.received.taken (seen_in x.received.answer x.later)

-- as its contract has it
abbrev pub Turned : EisHandshaker → HandshakeTurn → Type 0
Turned h (HandshakeTurn.request x) = Handled h (request_of x.request x.text) x.out x.later x.answer
Turned h (HandshakeTurn.message x) = Received h x.bytes x.out x.later x.received

-- one after another
pub data HandshakeTurns : EisHandshaker → List HandshakeTurn → Type 0 where
  none : {h : EisHandshaker} → HandshakeTurns h []
  next : {h : EisHandshaker} {x : HandshakeTurn} {xs : List HandshakeTurn} → Turned h x → HandshakeTurns (answer_of x).handshaker xs → HandshakeTurns h (x ∷ xs)

-- what is seen of them is what the definitions say of the requests and bytes, and nothing else has a part in it
abbrev pub SeenIsTurns : Type 0
SeenIsTurns =
    (h : EisHandshaker) (xs : List HandshakeTurn) → is_sound h ≡ true → HandshakeTurns h xs → map seen_of xs ≡ turns (map given_of xs) (view_of h)

-- "Two handshakes that get equal calls give equal outcomes, event bytes and sessions": equal requests, equal bytes, and buffers of equal lengths
abbrev pub EqualTurns : Type 0
EqualTurns =
    (h h' : EisHandshaker) (xs xs' : List HandshakeTurn) → is_sound h ≡ true → is_sound h' ≡ true → view_of h ≡ view_of h'
    → HandshakeTurns h xs → HandshakeTurns h' xs' → map given_of xs ≡ map given_of xs'
    → map seen_of xs ≡ map seen_of xs'
