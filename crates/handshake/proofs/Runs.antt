-- Whole lists of calls: equal calls, rising ids, a second Finish, and the code's answers. Assumes nothing.
use Prim.Native.Nat.{ℕ, zero, suc, ◌+◌, ◌≤◌, ◌<◌, zero-le}
use mathlib.Core.Bool.{Bool, true, false, cond, true≢false}
use mathlib.Core.List.{List, [], ◌∷◌, ◌++◌, map}
use mathlib.Core.Option.{Option, none, some}
use mathlib.Core.Path.{◌≡◌, refl, sym, ap, ap₂, ◌∙◌}
use native.Mathlib.Omega.{arith}
use borrow.Author.Tests.{le-ltb}
use lib.Dec.{ltb}
use lib.ListN.{length, get_or, take, drop}
use lib.Seq.{take-append_seam}
use Rattle.eiproto.specs.declared.eiproto_enum.ContextType.{ContextType}
use Rattle.utf8.specs.Rfc3629.{is_utf8}
use Rattle.wire.specs.Bits.{splice}
use Rattle.handshake.specs.Handshake as paper
use Rattle.handshake.specs.Handshake.{Handshake, Step, refuse, accept, check_utf8, check_room, set_name, set_context, complete, concluded, missing, finish, handle_request}
use Rattle.handshake.specs.View.{view_of, is_sound, Meets}
use Rattle.handshake.specs.Run.{Call, run, trail, EqualCalls, given, ids, IdsRise, SecondFinish, HandshakeExchange, call_of, seen_in, seen, HandshakeCalls, SeenIsTrail, EqualHandshakes}
use Rattle.handshake.specs.declared.handshake.EisHandshaker.{EisHandshaker}
use Rattle.handshake.specs.declared.handshake.HandshakeAnswer.{HandshakeAnswer}

-- a trail is a function of the serial, the first room and the calls, and of nothing else: so it is congruence
pub equal_calls : EqualCalls
equal_calls serial serial' room room' cs cs' e f g = λ i. trail (e i) (f i) (g i)

-- ---- ids

-- a step gives no id and leaves the next one, or it gives the next one
data Gives (h : Handshake) (s : Step) : Type 0 where
  nothing : given s.outcome ≡ [] → s.handshake.next_id ≡ h.next_id → Gives h s
  next : given s.outcome ≡ h.next_id ∷ [] → s.handshake.next_id ≡ h.next_id + 1 → Gives h s

module _ (h : Handshake) where
  cond-gives : (b : Bool) {s t : Step} → Gives h s → Gives h t → Gives h (cond b s t)
  cond-gives true p q = p
  cond-gives false p q = q

  refuse-gives : (n : ℕ) → Gives h (refuse h n)
  unfolding refuse given
  refuse-gives n = Gives.nothing refl refl

  room-gives : (room : ℕ) (s : Step) → Gives h s → Gives h (check_room h room s)
  unfolding check_room
  room-gives room s p = cond-gives (ltb room (length s.bytes)) (refuse-gives 19) p

  finish-gives : (room : ℕ) → Gives h (finish h room)
  unfolding finish concluded missing given
  finish-gives room =
      cond-gives (complete h.versions)
      (cond-gives (ltb 0xffff_ffff_ffff_ffff (h.next_id + 1)) (refuse-gives 20) (room-gives room (concluded h) (Gives.next refl refl)))
      (room-gives room (missing h) (Gives.nothing refl refl))

  name-gives : (name : List ℕ) (old : Option (List ℕ)) → Gives h (set_name h name old)
  unfolding set_name accept given
  name-gives name none = Gives.nothing refl refl
  name-gives name (some old) = refuse-gives 8

  context-gives : (c : ContextType) (old : Option ContextType) → Gives h (set_context h c old)
  unfolding set_context accept given
  context-gives c none = Gives.nothing refl refl
  context-gives c (some old) = refuse-gives 8

  step_gives : (r : paper.Message) (room : ℕ) → Gives h (handle_request h r room)
  unfolding handle_request check_utf8 accept given
  step_gives (paper.Message.HandshakeVersion v) room = Gives.nothing refl refl
  step_gives paper.Message.Finish room = finish-gives room
  step_gives (paper.Message.Context c) room = context-gives c h.context_type
  step_gives (paper.Message.Name name) room =
      cond-gives (is_utf8 name) (cond-gives (ltb 254 (length name)) (refuse-gives 11) (name-gives name h.name)) (refuse-gives 10)
  step_gives (paper.Message.InterfaceVersion name v) room = cond-gives (is_utf8 name) (Gives.nothing refl refl) (refuse-gives 10)
  step_gives (paper.Message.Other text) room = cond-gives (is_utf8 text) (refuse-gives 7) (refuse-gives 10)

-- from n on, each above the one before
data Rising : ℕ → List ℕ → Type 0 where
  end : {n : ℕ} → Rising n []
  above : {n x : ℕ} {xs : List ℕ} → n ≤ x → Rising (x + 1) xs → Rising n (x ∷ xs)

run_rises : (cs : List Call) (h : Handshake) → Rising h.next_id (ids (run cs h))
unfolding run ids
run_rises [] h = Rising.end
run_rises (c ∷ cs) h = go (step_gives h c.request c.room) (run_rises cs (handle_request h c.request c.room).handshake)
  where
    go : {s : Step} {xs : List ℕ} → Gives h s → Rising s.handshake.next_id xs → Rising h.next_id (given s.outcome ++ xs)
    go {s} {xs} (Gives.nothing e f) r = rw e (rw f at r)
    go {s} {xs} (Gives.next e f) r = rw e (Rising.above {n = h.next_id} {x = h.next_id} (omega arith) (rw f at r))

rising_from : {n : ℕ} {xs : List ℕ} → Rising n xs → (j : ℕ) → j < length xs → n ≤ get_or xs j 0
rising_from Rising.end j h = absurd (omega arith)
rising_from (Rising.above l r) zero h = l
rising_from (Rising.above l r) (suc j) h = let k = rising_from r j (omega arith) in omega arith

rising_order : {n : ℕ} {xs : List ℕ} → Rising n xs → (i j : ℕ) → i < j → j < length xs → get_or xs i 0 < get_or xs j 0
rising_order Rising.end i j l h = absurd (omega arith)
rising_order (Rising.above p r) i zero l h = absurd (omega arith)
rising_order (Rising.above p r) zero (suc j) l h = let k = rising_from r j (omega arith) in omega arith
rising_order (Rising.above p r) (suc i) (suc j) l h = rising_order r i j (omega arith) (omega arith)

pub ids_rise : IdsRise
ids_rise cs h = rising_order (run_rises cs h)

-- ---- what a Finish settles

is_finished : paper.Result → Bool
is_finished paper.Result.accepted = false
is_finished (paper.Result.refused n) = false
is_finished (paper.Result.finished r) = true

-- the response that a result tells; r where it tells none
unfoldable pub response_in : paper.Response → paper.Result → paper.Response
response_in r paper.Result.accepted = r
response_in r (paper.Result.refused n) = r
response_in r (paper.Result.finished s) = s

-- if the step finishes, it settles what the handshake has
pub record Settles (h : Handshake) (s : Step) : Type 0 where
  pub is : (r : paper.Response) → s.outcome ≡ paper.Result.finished r → r ≡ paper.settled h

module _ (h : Handshake) where
  unfinished_settles : (s : Step) → is_finished s.outcome ≡ false → Settles h s
  unfolding is_finished
  unfinished_settles s u = record { is = λ r e. absurd (true≢false (sym (ap is_finished e) ∙ u)) }

  cond_settles : (b : Bool) {s t : Step} → Settles h s → Settles h t → Settles h (cond b s t)
  cond_settles true p q = p
  cond_settles false p q = q

  refuse_settles : (n : ℕ) → Settles h (refuse h n)
  unfolding refuse is_finished
  refuse_settles n = unfinished_settles (refuse h n) refl

  concluded_settles : Settles h (concluded h)
  unfolding concluded response_in
  concluded_settles = record { is = λ r e. sym (ap (response_in r) e) }

  finish_settles : (room : ℕ) → Settles h (finish h room)
  unfolding finish check_room missing is_finished
  finish_settles room =
      cond_settles (complete h.versions)
      (cond_settles (ltb 0xffff_ffff_ffff_ffff (h.next_id + 1)) (refuse_settles 20)
      (cond_settles (ltb room (length (concluded h).bytes)) (refuse_settles 19) concluded_settles))
      (cond_settles (ltb room (length (missing h).bytes)) (refuse_settles 19) (unfinished_settles (missing h) refl))

  name_settles : (name : List ℕ) (old : Option (List ℕ)) → Settles h (set_name h name old)
  unfolding set_name accept is_finished
  name_settles name none = unfinished_settles (set_name h name none) refl
  name_settles name (some old) = refuse_settles 8

  context_settles : (c : ContextType) (old : Option ContextType) → Settles h (set_context h c old)
  unfolding set_context accept is_finished
  context_settles c none = unfinished_settles (set_context h c none) refl
  context_settles c (some old) = refuse_settles 8

  -- of all requests, Finish alone finishes
  pub request_settles : (m : paper.Message) (room : ℕ) → Settles h (handle_request h m room)
  unfolding handle_request check_utf8 accept is_finished
  request_settles (paper.Message.HandshakeVersion v) room = unfinished_settles (accept h) refl
  request_settles paper.Message.Finish room = finish_settles room
  request_settles (paper.Message.Context c) room = context_settles c h.context_type
  request_settles (paper.Message.Name name) room =
      cond_settles (is_utf8 name) (cond_settles (ltb 254 (length name)) (refuse_settles 11) (name_settles name h.name)) (refuse_settles 10)
  request_settles (paper.Message.InterfaceVersion name v) room = cond_settles (is_utf8 name) (unfinished_settles (accept _) refl) (refuse_settles 10)
  request_settles (paper.Message.Other text) room = cond_settles (is_utf8 text) (refuse_settles 7) (refuse_settles 10)

-- ---- a second Finish

-- a Finish that succeeds is concluded
finished_is : (h : Handshake) (room : ℕ) (r : paper.Response) → (finish h room).outcome ≡ paper.Result.finished r → finish h room ≡ concluded h
unfolding finish check_room refuse missing
finished_is h room r =
    go (complete h.versions) (ltb 0xffff_ffff_ffff_ffff (h.next_id + 1)) (ltb room (length (concluded h).bytes)) (ltb room (length (missing h).bytes))
  where
    go : (a b c d : Bool) → (cond a (cond b (refuse h 20) (cond c (refuse h 19) (concluded h))) (cond d (refuse h 19) (missing h))).outcome ≡ paper.Result.finished r
        → cond a (cond b (refuse h 20) (cond c (refuse h 19) (concluded h))) (cond d (refuse h 19) (missing h)) ≡ concluded h
    go true true c d e = absurd (let z : ◌≡◌ {A = ℕ} 0 1 = cc in omega arith)
    go true false true d e = absurd (let z : ◌≡◌ {A = ℕ} 0 1 = cc in omega arith)
    go true false false d e = refl
    go false b c true e = absurd (let z : ◌≡◌ {A = ℕ} 0 1 = cc in omega arith)
    go false b c false e = absurd (let z : ◌≡◌ {A = ℕ} 0 1 = cc in omega arith)

after_conclusion : (h : Handshake) (room : ℕ) → finish (concluded h).handshake room ≡ refuse (concluded h).handshake 9
unfolding finish concluded missing check_room refuse
after_conclusion h room = rw (le-ltb room 0 (zero-le))

pub second_finish : SecondFinish
second_finish h room room' r e = rw (finished_is h room r e) (after_conclusion h room')

-- ---- the code

-- the bytes at the start of the buffer, as many as the count says, are the step's
meets-seen : (out : List ℕ) {later : List ℕ} {s : Step} {r : HandshakeAnswer} → Meets out later s r → seen_in r later ≡ s
unfolding splice
meets-seen out {later} {s} {r} m =
    let e : take r.count later ≡ s.bytes = rw (m.count, m.buffer) (take-append_seam s.bytes (drop (0 + length s.bytes) out)) in
    λ i. record { handshake = m.handshake i; outcome = m.outcome i; bytes = e i }

seen_is_run : (h : EisHandshaker) (xs : List HandshakeExchange) → is_sound h ≡ true → HandshakeCalls h xs → map seen xs ≡ run (map call_of xs) (view_of h)
unfolding run
seen_is_run h [] sound HandshakeCalls.none = refl
seen_is_run h (x ∷ xs) sound (HandshakeCalls.next d rest) =
    let m = (d.done sound).meets in
    ap₂ (λ (s : Step) (l : List Step). s ∷ l) (meets-seen x.out m) (seen_is_run x.answer.handshaker xs m.sound rest ∙ ap (run (map call_of xs)) m.handshake)

pub seen_is_trail : SeenIsTrail
unfolding trail
seen_is_trail serial out later r xs m made =
    ap₂ (λ (s : Step) (l : List Step). s ∷ l) (meets-seen out m) (seen_is_run r.handshaker xs m.sound made ∙ ap (run (map call_of xs)) m.handshake)

pub equal_handshakes : EqualHandshakes
equal_handshakes serial out out' later later' r r' xs xs' m m' made made' e f =
    seen_is_trail serial out later r xs m made ∙ (λ i. trail serial (e i) (f i)) ∙ sym (seen_is_trail serial out' later' r' xs' m' made')
