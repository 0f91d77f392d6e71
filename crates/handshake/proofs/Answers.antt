-- Answers of the code that meet a step of the definitions. Assumes nothing.
use Prim.Native.Nat.{ℕ, ◌+◌, ◌≤◌, ◌<◌}
use mathlib.Core.Bool.{true, false≢true}
use mathlib.Core.List.{List}
use mathlib.Core.Path.{◌≡◌, refl, sym, ap, ◌∙◌}
use mathlib.Core.Logic.{dite}
use native.Mathlib.Decide.{dec_le}
use native.Mathlib.Omega.{arith}
use borrow.Author.Tests.{le-leb, lt-leb, leb-true}
use native.Mathlib.Nat.{zero-add}
use lib.ListN.{length}
use Rattle.wire.specs.Bits.{splice}
use Rattle.wire.specs.Put.{PutWhole, Wrote}
use Rattle.wire.specs.declared.event.Event.{Event}
use Rattle.wire.proofs.Splices.{splice-none, fitted_all, fitted_none, wrote_put}
use Rattle.wire.proofs.Records.{fixed-least}
use Rattle.handshake.proofs.Cases.{room-short, room_enough}
use Rattle.handshake.proofs.Reports.{length-sent}
use Rattle.std.specs.Prelude.{Some, None, Ok, Err}
use Rattle.std.specs.Prelude as rust
use Rattle.handshake.specs.Handshake as paper
use Rattle.handshake.specs.View.{view_of, versions_of, is_sound, number, response_of, outcome_of, no_name, no_interfaces, no_response, unfinished, Meets, Done, Handled}
use Rattle.wire.specs.Ids.{first_server_id}
use Rattle.handshake.specs.declared.handshake.Name.{Name}
use Rattle.handshake.specs.declared.handshake.EisHandshakeResp.{EisHandshakeResp}
use Rattle.handshake.specs.declared.handshake.EisHandshaker.{EisHandshaker}
use Rattle.handshake.specs.declared.handshake.HandshakeError.{HandshakeError}
use Rattle.handshake.specs.declared.handshake.HandshakeAnswer.{HandshakeAnswer}

-- the blank response's name
blank-named : no_response.name.length ≤ 254
unfolding no_response no_name
blank-named = omega arith

-- a refusal, and an acceptance of which the handshake is g; nothing is written
pub refused-meets : (h : EisHandshaker) (e : HandshakeError) {s : paper.Step} {r : HandshakeAnswer} → is_sound h ≡ true → s ≡ paper.refuse (view_of h) (number e)
    → r ≡ unfinished h (Err e) 0 → (out : List ℕ) → Meets out out s r
unfolding paper.refuse outcome_of
refused-meets h e sound p q out =
    rw (p, q) (record { handshake = refl; outcome = refl; count = refl; buffer = sym (splice-none out 0); sound = sound; named = blank-named })

pub refused-done : (h : EisHandshaker) (e : HandshakeError) {s : paper.Step} {r : HandshakeAnswer} → is_sound h ≡ true → s ≡ paper.refuse (view_of h) (number e)
    → r ≡ unfinished h (Err e) 0 → (out : List ℕ) → Done h out out s r
refused-done h e sound p q out = record { meets = refused-meets h e sound p q out; kept = λ _. ap (λ (a : HandshakeAnswer). a.handshaker) q }

pub accepted-done : (h g : EisHandshaker) {s : paper.Step} {r : HandshakeAnswer} → is_sound g ≡ true → s ≡ paper.accept (view_of g)
    → r ≡ unfinished g (Ok None) 0 → (out : List ℕ) → Done h out out s r
unfolding paper.accept outcome_of
accepted-done h g sound p q out =
    rw (p, q)
    (record {
      meets = record { handshake = refl; outcome = refl; count = refl; buffer = sym (splice-none out 0); sound = sound; named = blank-named };
      kept = λ t. absurd (false≢true t);
    })

versions-none : versions_of no_interfaces ≡ paper.no_versions
unfolding no_interfaces paper.no_versions
versions-none = refl

-- ---- a start

-- the handshake that it makes
abbrev freshly : Name → List (rust.Option ℕ) → (serial : ℕ) → EisHandshaker
freshly name interfaces serial = record { name = name; context = None; interfaces = interfaces; serial = serial; next = first_server_id }

pub fresh-view : (serial : ℕ) {name : Name} {interfaces : List (rust.Option ℕ)} → name ≡ no_name → interfaces ≡ no_interfaces
    → view_of (freshly name interfaces serial) ≡ paper.fresh_handshake serial
unfolding view_of no_name paper.fresh_handshake
fresh-view serial unnamed e = rw (unnamed, e, versions-none)

pub fresh-sound : (serial : ℕ) {name : Name} (interfaces : List (rust.Option ℕ)) → name ≡ no_name → is_sound (freshly name interfaces serial) ≡ true
unfolding is_sound no_name
fresh-sound serial interfaces unnamed = rw unnamed

event : List ℕ
event = paper.sent (Event.HandshakeVersion 1)

event-some : 0 < length event
unfolding event
event-some = rw length-sent (omega (arith, fixed-least (Event.HandshakeVersion 1)))

-- its event was put, or there was no room for it
module _ (h : EisHandshaker) (serial : ℕ) (is : view_of h ≡ paper.fresh_handshake serial) (sound : is_sound h ≡ true) {out later : List ℕ} {n : ℕ}
    (put : PutWhole out later 0 (paper.sent (Event.HandshakeVersion 1)) n) {r : HandshakeAnswer} where
  pub start-refused : n ≡ 0 → r ≡ unfinished h (Err HandshakeError.ShortOut) 0 → Meets out later (paper.start serial (length out)) r
  unfolding event paper.start
  start-refused e q =
      dite (dec_le (0 + length event) (length out))
      (λ l. absurd (omega (arith, event-some, ap length (fitted_all out 0 event l), put.count)))
      (λ l.
      let none_fits = fitted_none out 0 event (omega arith) in
      rw (put.buffer, none_fits, splice-none)
      (refused-meets h HandshakeError.ShortOut sound (room-short (paper.fresh_handshake serial) (length out) (paper.begun serial) (omega arith) ∙ rw is) q out))

  pub start-accepted : (n ≡ 0 → ⊥) → r ≡ unfinished h (Ok None) n → Meets out later (paper.start serial (length out)) r
  unfolding event paper.start outcome_of
  start-accepted e q =
      dite (dec_le (0 + length event) (length out))
      (λ l.
      let fits = fitted_all out 0 event l in
      rw (room_enough (paper.fresh_handshake serial) (length out) (paper.begun serial) (omega arith), q)
      (record { handshake = is; outcome = refl; count = put.count ∙ ap length fits; buffer = put.buffer ∙ ap (splice out 0) fits; sound = sound; named = blank-named }))
      (λ l. absurd (e (put.count ∙ ap length (fitted_none out 0 event (omega arith)))))

-- ---- Finish

-- 9, behind its report
pub missing-done : (h : EisHandshaker) {out later : List ℕ} {n : ℕ} {s : paper.Step} {r : HandshakeAnswer} → is_sound h ≡ true → s ≡ paper.missing (view_of h)
    → Wrote out later 0 n (paper.report 1 (versions_of h.interfaces)) n → r ≡ unfinished h (Err HandshakeError.MissingInterface) n → Done h out later s r
unfolding paper.missing view_of outcome_of
missing-done h sound p w q =
    rw (p, q)
    (record {
      meets = record { handshake = refl; outcome = refl; count = sym w.long; buffer = w.buffer; sound = sound; named = blank-named };
      kept = λ _. refl;
    })

-- the answer to a Finish that succeeds
abbrev pub finished : EisHandshaker → List (rust.Option ℕ) → (next : ℕ) → EisHandshakeResp → (count : ℕ) → HandshakeAnswer
finished h none next response count =
    record {
      handshaker = record { name = h.name; context = h.context; interfaces = none; serial = h.serial; next = next };
      outcome = Ok (Some response);
      count = count;
    }

pub concluded-done : (h : EisHandshaker) {out mid later : List ℕ} {next at n : ℕ} {none : List (rust.Option ℕ)} {response : EisHandshakeResp} {s : paper.Step}
    → is_sound h ≡ true → s ≡ paper.concluded (view_of h) → next ≡ h.next + 1 → none ≡ no_interfaces → response_of response ≡ paper.settled (view_of h) → response.name ≡ h.name
    → Wrote out mid 0 at (paper.report 1 (versions_of h.interfaces)) at → PutWhole mid later at (paper.sent (Event.Connection h.next h.serial 1)) n
    → at + length (paper.sent (Event.Connection h.next h.serial 1)) ≤ length out → Done h out later s (finished h none next response (at + n))
unfolding paper.concluded view_of is_sound outcome_of
concluded-done h sound p e none_is settles names w put fits =
    let v = wrote_put w put (rw zero-add fits) in
    rw p
    (record {
      meets =
          record {
            handshake = rw (e, none_is, versions-none);
            outcome = ap paper.Result.finished settles;
            count = omega (arith, v.next, v.long);
            buffer = v.buffer;
            sound = sound;
            named = rw names (leb-true h.name.length 254 sound);
          };
      kept = λ t. absurd (false≢true t);
    })

-- ---- any request: 21, or what the request comes to

pub sound_is : (h : EisHandshaker) → h.name.length ≤ 254 → is_sound h ≡ true
unfolding is_sound
sound_is h l = le-leb h.name.length 254 l

pub handled : (h : EisHandshaker) (request : paper.Message) {out later : List ℕ} {r : HandshakeAnswer} → h.name.length ≤ 254
    → Done h out later (paper.handle_request (view_of h) request (length out)) r → Handled h request out later r
handled h request l d = record { damaged = λ t. absurd (false≢true (sym t ∙ sound_is h l)); done = λ _. d }

pub handled-damaged : (h : EisHandshaker) (request : paper.Message) {r : HandshakeAnswer} → 254 < h.name.length
    → r ≡ unfinished h (Err HandshakeError.BadState) 0 → (out : List ℕ) → Handled h request out out r
unfolding is_sound
handled-damaged h request l q out = record { damaged = λ _. (q, refl); done = λ t. absurd (false≢true (sym (lt-leb h.name.length 254 l) ∙ t)) }
