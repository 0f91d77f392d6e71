-- Lists of calls on a handshake, requests and messages among them: what is seen of them is what the definitions say. Assumes nothing.
use Prim.Native.Nat.{ℕ, ◌+◌}
use mathlib.Core.Path.{◌≡◌, refl, sym, ap, ap₂, ◌∙◌}
use mathlib.Core.Bool.{Bool, true, cond}
use mathlib.Core.List.{List, [], ◌∷◌, map}
use lib.ListN.{length, take, drop}
use lib.Seq.{take-append_seam}
use Rattle.wire.specs.Bits.{splice}
use Rattle.std.specs.Prelude.{Some, None, Ok, Err}
use Rattle.std.specs.Prelude as rust
use Rattle.handshake.specs.Handshake as paper
use Rattle.handshake.specs.View.{view_of, is_sound, is_refusal, HandshakeOutcome, outcome_of, Meets}
use Rattle.handshake.specs.Run.{seen_in}
use Rattle.handshake.specs.declared.handshake.EisHandshaker.{EisHandshaker}
use Rattle.handshake.specs.declared.handshake.HandshakeAnswer.{HandshakeAnswer}
use Rattle.handshake_messages.specs.Reading.{handshake_reading, request_in, Nothing, HandedOn, Follows}
use Rattle.handshake_messages.specs.Run.{TurnSeen, step_in, is_refused, nothing, handed, message_turn, turn, turns, MessageExchange, HandshakeTurn, answer_of, given_of, seen_of, Turned, HandshakeTurns, SeenIsTurns, EqualTurns}
use Rattle.parse.specs.declared.First.{First}
use Rattle.handshake_messages.specs.declared.Unhanded.{Unhanded}
use Rattle.handshake_messages.specs.declared.HandshakeReceived.{HandshakeReceived}

-- the bytes at the start of the buffer, as many as the count says, are the step's
pub meets-seen : (out : List ℕ) {later : List ℕ} {s : paper.Step} {r : HandshakeAnswer} → Meets out later s r → seen_in r later ≡ s
unfolding splice
meets-seen out {later} {s} {r} m =
    let e : take r.count later ≡ s.bytes = rw (m.count, m.buffer) (take-append_seam s.bytes (drop (0 + length s.bytes) out)) in
    λ i. record { handshake = m.handshake i; outcome = m.outcome i; bytes = e i }

-- a refusal is one in the definitions' terms
refusal_is : (o : HandshakeOutcome) → is_refusal o ≡ is_refused (outcome_of o)
unfolding outcome_of
refusal_is (Ok None) = refl
refusal_is (Ok (Some s)) = refl
refusal_is (Err e) = refl

-- what a call leaves: what is seen of it is what the definition says, and the handshake is not damaged
pub record Turning (h : EisHandshaker) (x : HandshakeTurn) : Type 0 where
  pub seen : seen_of x ≡ turn (view_of h) (given_of x)
  pub sound : is_sound (answer_of x).handshaker ≡ true

module _ (h : EisHandshaker) (sound : is_sound h ≡ true) (x : MessageExchange) where
  -- what is seen of an answer to a message
  abbrev seen_from : HandshakeReceived → TurnSeen
  seen_from r = TurnSeen.message r.told r.taken (seen_in r.answer x.later)

  abbrev Left : TurnSeen → Type 0
  Left s = (seen_of (HandshakeTurn.message x) ≡ s) × (is_sound x.received.answer.handshaker ≡ true)

  not-handed : (why : Unhanded) → Nothing h x.out x.later why x.received → Left (nothing why (view_of h))
  unfolding outcome_of
  not-handed why n = (ap seen_from n.0, ap (λ (r : HandshakeReceived). is_sound r.answer.handshaker) n.0 ∙ sound)

  handed_on : (request : paper.Message) (n : ℕ) → HandedOn h request n x.out x.later x.received
      → Left (handed n (paper.handle_request (view_of h) request (length x.out)))
  handed_on request n a =
      let r = x.received in
      let m = a.done.meets in
      let e = a.taken ∙ ap (λ (b : Bool). cond b 0 n) (refusal_is r.answer.outcome ∙ ap is_refused m.outcome) in
      let s = meets-seen x.out m in
      ((λ i. TurnSeen.message (a.told i) (e i) (s i)), m.sound)

  followed : (f : rust.Result First Unhanded) → Follows f h x.bytes x.out x.later x.received → Left (message_turn f (view_of h) x.bytes (length x.out))
  unfolding message_turn
  followed (Ok f) a = handed_on (request_in f.arguments (take f.length x.bytes)) f.length a
  followed (Err why) a = not-handed why a

pub turning : (h : EisHandshaker) (x : HandshakeTurn) → is_sound h ≡ true → Turned h x → Turning h x
unfolding turn
turning h (HandshakeTurn.request x) sound a =
    let m = (a.done sound).meets in
    record { seen = ap TurnSeen.request (meets-seen x.out m); sound = m.sound }
turning h (HandshakeTurn.message x) sound a =
    let l = followed h sound x (handshake_reading (view_of h) x.bytes) (a.received sound) in
    record { seen = l.0; sound = l.1 }

pub seen_is_turns : SeenIsTurns
unfolding turns
seen_is_turns h [] sound HandshakeTurns.none = refl
seen_is_turns h (x ∷ xs) sound (HandshakeTurns.next a rest) =
    let t = turning h x sound a in
    ap₂ (λ (s : TurnSeen) (l : List TurnSeen). s ∷ l) t.seen
    (seen_is_turns (answer_of x).handshaker xs t.sound rest ∙ ap (turns (map given_of xs)) (after x ∙ ap (λ (s : TurnSeen). (step_in s).handshake) t.seen))
  where
    after : (y : HandshakeTurn) → view_of (answer_of y).handshaker ≡ (step_in (seen_of y)).handshake
    after (HandshakeTurn.request y) = refl
    after (HandshakeTurn.message y) = refl

pub equal_turns : EqualTurns
equal_turns h h' xs xs' sound sound' e made made' f =
    seen_is_turns h xs sound made ∙ (λ i. turns (f i) (e i)) ∙ sym (seen_is_turns h' xs' sound' made')
