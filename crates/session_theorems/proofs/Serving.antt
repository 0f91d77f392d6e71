-- A connection from its handshake's first call on: the handshake's own theorems, the session that its Finish settled, and the theorems of sessions. Assumes nothing.
use Prim.Native.Nat.{ℕ, ◌+◌}
use mathlib.Core.Path.{◌≡◌, refl, sym, ap, ◌∙◌}
use mathlib.Core.Bool.{true, false≢true}
use mathlib.Core.List.{List, [], ◌∷◌, ◌++◌, map}
use lib.ListN.{length, take}
use Rattle.handshake.specs.Handshake as paper
use Rattle.std.specs.Prelude.{Some, None, Ok, Err}
use Rattle.std.specs.Prelude as rust
use Rattle.handshake.specs.View.{view_of, is_sound, request_of, HandshakeOutcome, is_finished, versions_of, outcome_of, response_of, Meets}
use Rattle.handshake.specs.View as view
use Rattle.handshake.specs.declared.handshake.EisHandshaker.{EisHandshaker}
use Rattle.handshake.specs.declared.handshake.HandshakeAnswer.{HandshakeAnswer}
use Rattle.handshake.proofs.Runs.{response_in, request_settles}
use Rattle.handshake_messages.specs.Reading.{request_in, handshake_reading, Nothing, Follows}
use Rattle.handshake_messages.specs.Run as handshake
use Rattle.handshake_messages.specs.Run.{TurnSeen, step_in, HandshakeTurn, answer_of, Turned, HandshakeTurns}
use Rattle.parse.specs.declared.First.{First}
use Rattle.handshake_messages.specs.declared.Unhanded.{Unhanded}
use Rattle.handshake_messages.specs.declared.HandshakeReceived.{HandshakeReceived}
use Rattle.handshake_messages.proofs.Runs.{meets-seen, turning, equal_turns}
use Rattle.model.specs.Call.{Load}
use Rattle.model.specs.Session.{Session, fresh}
use Rattle.session.proofs.Views.{whole_is}
use Rattle.session_theorems.specs.Served.{Served, shaken, finish_of, Serves, FromFinish, SameHandshake, handshake_seen, EqualSessions, EqualServed}
use Rattle.session_theorems.proofs.Making.{equal_seen}

-- the last call is made on a handshake that is not damaged
pub record LastOn (x : HandshakeTurn) : Type 0 where
  pub handshaker : EisHandshaker
  pub sound : is_sound handshaker ≡ true
  pub turned : Turned handshaker x

last_on : (h : EisHandshaker) (xs : List HandshakeTurn) (x : HandshakeTurn) → is_sound h ≡ true → HandshakeTurns h (xs ++ (x ∷ [])) → LastOn x
last_on h [] x sound (HandshakeTurns.next a rest) = record { handshaker = h; sound = sound; turned = a }
last_on h (y ∷ ys) x sound (HandshakeTurns.next a rest) = last_on (answer_of y).handshaker ys x (turning h y sound a).sound rest

finished-told : (o : HandshakeOutcome) → is_finished o ≡ true → outcome_of o ≡ paper.Result.finished (response_of (view.response_in o))
unfolding outcome_of
finished-told (Ok None) h = absurd (false≢true h)
finished-told (Ok (Some s)) h = refl
finished-told (Err e) h = absurd (false≢true h)

-- a call that finishes settles what the handshake has: a message that is not handed on finishes nothing
settles_met : (h : EisHandshaker) (m : paper.Message) {out later : List ℕ} (r : HandshakeAnswer) → is_finished r.outcome ≡ true
    → Meets out later (paper.handle_request (view_of h) m (length out)) r → response_of (view.response_in r.outcome) ≡ paper.settled (view_of h)
settles_met h m {out} r f a = (request_settles (view_of h) m (length out)).is (response_of (view.response_in r.outcome)) (sym a.outcome ∙ finished-told r.outcome f)

settles : (h : EisHandshaker) (x : HandshakeTurn) → is_sound h ≡ true → Turned h x → is_finished (answer_of x).outcome ≡ true
    → response_of (view.response_in (answer_of x).outcome) ≡ paper.settled (view_of h)
settles h (HandshakeTurn.request x) sound a f = settles_met h (request_of x.request x.text) x.answer f (a.done sound).meets
settles h (HandshakeTurn.message x) sound a f = go (handshake_reading (view_of h) x.bytes) (a.received sound)
  where
    not : {why : Unhanded} → Nothing h x.out x.later why x.received → {P : Type 0} → P
    not n = absurd (false≢true (sym (ap (λ (r : HandshakeReceived). is_finished r.answer.outcome) n.0) ∙ f))

    go : (g : rust.Result First Unhanded) → Follows g h x.bytes x.out x.later x.received → response_of (view.response_in x.received.answer.outcome) ≡ paper.settled (view_of h)
    go (Ok g) on = settles_met h (request_in g.arguments (take g.length x.bytes)) x.received.answer f on.done.meets
    go (Err why) n = not n

-- what the Finish settles goes on after the connection's id
next_is : (x : Served) → Serves x → (view.response_in (finish_of x).outcome).next ≡ (view.response_in (finish_of x).outcome).connection + 1
unfolding response_of paper.settled
next_is x h =
    let l = last_on x.started.handshaker x.turns x.finish h.starts.sound h.shakes in
    let e = settles l.handshaker x.finish l.sound l.turned h.finished in
    ap (λ (r : paper.Response). r.next_id) e ∙ sym (ap (λ (r : paper.Response). r.connection + 1) e)

pub from_finish : FromFinish
from_finish x h =
    let b = h.begins.begun h.control_long x.slices.words x.slices.reals x.slices.texts h.words_long h.reals_long h.texts_long in
    let r = view.response_in (finish_of x).outcome in
    record {
      whole = whole_is x.slices b.0;
      starts = b.1 ∙ ap (λ (n : ℕ). fresh r.connection r.serial n (versions_of r.interfaces)) (next_is x h);
      calls = h.calls;
    }

-- ---- two connections

-- the last step
last_of : paper.Step → List TurnSeen → paper.Step
last_of s [] = s
last_of s (t ∷ ts) = last_of (step_in t) ts

last_is : (s : paper.Step) (xs : List HandshakeTurn) (x : HandshakeTurn) → last_of s (map handshake.seen_of (xs ++ (x ∷ []))) ≡ step_in (handshake.seen_of x)
unfolding last_of
last_is s [] x = refl
last_is s (y ∷ ys) x = last_is (step_in (handshake.seen_of y)) ys x

outcome-seen : (x : HandshakeTurn) → (step_in (handshake.seen_of x)).outcome ≡ outcome_of (answer_of x).outcome
outcome-seen (HandshakeTurn.request x) = refl
outcome-seen (HandshakeTurn.message x) = refl

module _ (x y : Served) (hx : Serves x) (hy : Serves y) (e : SameHandshake x y) where
  starts-equal : paper.start x.serial (length x.out) ≡ paper.start y.serial (length y.out)
  starts-equal = λ i. paper.start (e.serial i) (e.room i)

  turns-equal : map handshake.seen_of (shaken x) ≡ map handshake.seen_of (shaken y)
  turns-equal =
      equal_turns x.started.handshaker y.started.handshaker (shaken x) (shaken y) hx.starts.sound hy.starts.sound
      (hx.starts.handshake ∙ ap (λ (s : paper.Step). s.handshake) starts-equal ∙ sym hy.starts.handshake) hx.shakes hy.shakes e.calls

  handshakes_equal : handshake_seen x ≡ handshake_seen y
  handshakes_equal =
      let first = meets-seen x.out hx.starts ∙ starts-equal ∙ sym (meets-seen y.out hy.starts) in
      λ i. (first i, turns-equal i)

  -- the Finish settles the same
  settled-equal : response_of (view.response_in (finish_of x).outcome) ≡ response_of (view.response_in (finish_of y).outcome)
  unfolding last_of response_in
  settled-equal =
      let a = finish_of x in
      let b = finish_of y in
      let none = paper.start 0 0 in
      let last : step_in (handshake.seen_of x.finish) ≡ step_in (handshake.seen_of y.finish) =
      sym (last_is none x.turns x.finish) ∙ ap (last_of none) turns-equal ∙ last_is none y.turns y.finish in
      ap (response_in (response_of (view.response_in a.outcome)))
      (sym (finished-told a.outcome hx.finished)
      ∙ sym (outcome-seen x.finish)
      ∙ ap (λ (s : paper.Step). s.outcome) last
      ∙ outcome-seen y.finish
      ∙ finished-told b.outcome hy.finished)

-- the fresh session of what a Finish settled
abbrev fresh_of : paper.Response → Session Load
fresh_of r = fresh r.connection r.serial (r.connection + 1) r.versions

pub equal_sessions : EqualSessions
unfolding response_of
equal_sessions x y hx hy e =
    (handshakes_equal x y hx hy e, (from_finish x hx).starts ∙ ap fresh_of (settled-equal x y hx hy e) ∙ sym (from_finish y hy).starts)

pub equal_served : EqualServed
unfolding response_of
equal_served x y hx hy e matched =
    let r = view.response_in (finish_of x).outcome in
    let fx = from_finish x hx in
    let fy = from_finish y hy in (
      handshakes_equal x y hx hy e,
      equal_seen r.connection r.serial (r.connection + 1) (versions_of r.interfaces) x.slices y.slices x.calls y.calls fx
          (record { whole = fy.whole; starts = fy.starts ∙ ap fresh_of (sym (settled-equal x y hx hy e)); calls = fy.calls }) (rw (← fx.starts) matched),
    )
