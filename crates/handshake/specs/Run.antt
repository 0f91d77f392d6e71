-- Whole lists of calls, on the definitions and on the code, and what holds of them. proofs/Runs.antt proves the statements. Assumes nothing.
use Rattle.std.specs.Prelude.{ℕ, ◌<◌, List, [], ◌∷◌, ◌++◌, map, ◌≡◌, length, get_or, take}
use Rattle.handshake.specs.Handshake as paper
use Rattle.handshake.specs.View.{view_of, request_of, outcome_of, Meets, Handled}
use Rattle.handshake.specs.declared.handshake.EisHandshaker.{EisHandshaker}
use Rattle.handshake.specs.declared.handshake.HandshakeMessage.{HandshakeMessage}
use Rattle.handshake.specs.declared.handshake.HandshakeAnswer.{HandshakeAnswer}

-- ---- the definitions

-- a request, and the length of the `out` that is lent with it
pub record Call : Type 0 where
  pub request : paper.Message
  pub room : ℕ

-- each call gets the handshake that the one before returned
unfoldable pub run : List Call → paper.Handshake → List paper.Step
unfolding paper.handle_request
run [] h = []
run (c ∷ cs) h = paper.handle_request h c.request c.room ∷ run cs (paper.handle_request h c.request c.room).handshake

-- a start, and the calls after it
unfoldable pub trail : (serial room : ℕ) → List Call → List paper.Step
unfolding run paper.start
trail serial room cs = paper.start serial room ∷ run cs (paper.start serial room).handshake

-- "Two handshakes that get equal calls give equal outcomes, event bytes and sessions."
abbrev pub EqualCalls : Type 0
EqualCalls =
    (serial serial' room room' : ℕ) (cs cs' : List Call) → serial ≡ serial' → room ≡ room' → cs ≡ cs'
    → trail serial room cs ≡ trail serial' room' cs'

-- the ids that are given, in order
unfoldable pub given : paper.Result → List ℕ
given paper.Result.accepted = []
given (paper.Result.refused n) = []
given (paper.Result.finished r) = r.connection ∷ []

unfoldable pub ids : List paper.Step → List ℕ
unfolding given
ids [] = []
ids (s ∷ ss) = given s.outcome ++ ids ss

-- "New ids .. are never given twice by one handshake": each is larger than those before it
abbrev pub IdsRise : Type 0
IdsRise = (cs : List Call) (h : paper.Handshake) (i j : ℕ) → i < j → j < length (ids (run cs h)) → get_or (ids (run cs h)) i 0 < get_or (ids (run cs h)) j 0

-- "A second Finish after success finds no interfaces": it is 9, and nothing is written
abbrev pub SecondFinish : Type 0
SecondFinish =
    (h : paper.Handshake) (room room' : ℕ) (r : paper.Response) → (paper.finish h room).outcome ≡ paper.Result.finished r
    → paper.finish (paper.finish h room).handshake room' ≡ paper.refuse (paper.finish h room).handshake 9

-- ---- the code

-- a call of `handle_request`: what it is given, and what it leaves
pub record HandshakeExchange : Type 0 where
  pub request : HandshakeMessage
  pub text : List ℕ
  pub out : List ℕ
  pub later : List ℕ
  pub answer : HandshakeAnswer

abbrev pub call_of : HandshakeExchange → Call
call_of x = record { request = request_of x.request x.text; room = length x.out }

-- the session, outcome and event bytes of an answer
abbrev pub seen_in : HandshakeAnswer → (later : List ℕ) → paper.Step
seen_in r later = record { handshake = view_of r.handshaker; outcome = outcome_of r.outcome; bytes = take r.count later }

abbrev pub seen : HandshakeExchange → paper.Step
seen x = seen_in x.answer x.later

-- calls made one after another, each as its contract has it
pub data HandshakeCalls : EisHandshaker → List HandshakeExchange → Type 0 where
  none : {h : EisHandshaker} → HandshakeCalls h []
  next : {h : EisHandshaker} {x : HandshakeExchange} {xs : List HandshakeExchange} → Handled h (request_of x.request x.text) x.out x.later x.answer
      → HandshakeCalls x.answer.handshaker xs → HandshakeCalls h (x ∷ xs)

-- what is seen of a handshake that `new` starts is what the definitions say of the calls, and nothing else has a part in it
abbrev pub SeenIsTrail : Type 0
SeenIsTrail =
    (serial : ℕ) (out later : List ℕ) (r : HandshakeAnswer) (xs : List HandshakeExchange) → Meets out later (paper.start serial (length out)) r → HandshakeCalls r.handshaker xs
    → seen_in r later ∷ map seen xs ≡ trail serial (length out) (map call_of xs)

-- so two of them that get equal calls, in buffers of equal lengths, are seen as equal
abbrev pub EqualHandshakes : Type 0
EqualHandshakes =
    (serial : ℕ) (out out' later later' : List ℕ) (r r' : HandshakeAnswer) (xs xs' : List HandshakeExchange)
    → Meets out later (paper.start serial (length out)) r → Meets out' later' (paper.start serial (length out')) r'
    → HandshakeCalls r.handshaker xs → HandshakeCalls r'.handshaker xs' → length out ≡ length out' → map call_of xs ≡ map call_of xs'
    → seen_in r later ∷ map seen xs ≡ seen_in r' later' ∷ map seen xs'
