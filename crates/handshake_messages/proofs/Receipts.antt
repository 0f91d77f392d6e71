-- What was read, as what a call promises; and a request's text lies within its message. Assumes nothing.
use Prim.Native.Nat.{ℕ, ◌≤◌, ◌<◌}
use mathlib.Core.Path.{◌≡◌, refl, sym, ap, subst, ◌∙◌}
use mathlib.Core.Bool.{Bool, true, false, cond, false≢true}
use mathlib.Core.List.{List}
use native.Mathlib.Omega.{arith}
use borrow.Author.Tests.{lt-leb}
use lib.Dec.{eqb, ltb}
use lib.ListN.{length, take}
use Rattle.std.specs.Prelude.{Ok, Err, Some}
use Rattle.std.specs.Prelude as rust
use Rattle.parse.specs.First.{ReadFirst, first_of}
use Rattle.parse.specs.Parse.{le64}
use Rattle.parse.specs.declared.Arguments.{Arguments}
use Rattle.parse.proofs.Firsts.{IsFirst, first-within}
use Rattle.std.specs.Prelude.{Some, None, Ok, Err}
use Rattle.std.specs.Prelude as rust
use Rattle.std.specs.Result.{is_ok}
use Rattle.handshake.specs.Handshake as paper
use Rattle.handshake.specs.View.{view_of, is_sound, is_refusal, HandshakeOutcome, unfinished, Done, Handled}
use Rattle.handshake.specs.declared.handshake.EisHandshaker.{EisHandshaker}
use Rattle.handshake.specs.declared.handshake.HandshakeError.{HandshakeError}
use Rattle.handshake.proofs.Answers.{sound_is}
use Rattle.handshake_messages.specs.Reading.{object_of, is_peer_id, check_id, body_read, reading_of, request_in, is_handed, whole, Follows, Received}
use Rattle.parse.specs.declared.First.{First}
use Rattle.handshake_messages.specs.declared.Unhanded.{Unhanded}
use Rattle.handshake_messages.specs.declared.HandshakeReceived.{HandshakeReceived}

-- ---- a request that was read

read_in : First → rust.Result First Unhanded → First
read_in x (Ok y) = y
read_in x (Err why) = x

-- by which side a test came to it
either : {P : Type 0} (t : Bool) {x y z : rust.Result First Unhanded} → (t ≡ true → x ≡ z → P) → (t ≡ false → y ≡ z → P) → cond t x y ≡ z → P
either true f g = f refl
either false f g = g refl

module _ (m : List ℕ) (a : Arguments) (n : ℕ) where
  wait : Err Unhanded.Wait ≡ whole a n → IsFirst m a n
  wait e = absurd (let z : ◌≡◌ {A = ℕ} 0 1 = cc in omega arith)

  checked : (i : ℕ) (f : ReadFirst) → f ≡ first_of i m → check_id f ≡ whole a n → IsFirst m a n
  unfolding check_id read_in
  checked i (Ok None) q r = wait r
  checked i (Err e) q r = absurd (let z : ◌≡◌ {A = ℕ} 0 1 = cc in omega arith)
  checked i (Ok (Some f)) q r =
      either (eqb f.arguments.request 5) (λ _. either (is_peer_id f.arguments.first) (λ _. is) (λ _ s. absurd (let z : ◌≡◌ {A = ℕ} 0 1 = cc in omega arith))) (λ _. is) r
    where
      is : whole f.arguments f.length ≡ whole a n → IsFirst m a n
      is s =
          let e = ap (read_in (record { arguments = f.arguments; length = f.length })) s in
          let x : f.arguments ≡ a = ap (λ (z : First). z.arguments) e in
          let y : f.length ≡ n = ap (λ (z : First). z.length) e in
          rw (x, y) at (first-within i m f.arguments f.length q)

  body : (o : rust.Option ℕ) → body_read o m ≡ whole a n → IsFirst m a n
  unfolding body_read
  body None e = absurd (let z : ◌≡◌ {A = ℕ} 0 1 = cc in omega arith)
  body (Some i) e = checked i (first_of i m) refl e

  pub request-within : (next : ℕ) → whole a n ≡ reading_of next m → IsFirst m a n
  unfolding reading_of
  request-within next e = either (ltb (length m) 16) (λ _. wait) (λ _. body (object_of next (le64 m 0))) (sym e)

-- ---- a call's promise

pub received-damaged : (h : EisHandshaker) (m out : List ℕ) {r : HandshakeReceived} → 254 < h.name.length
    → r ≡ record { told = Ok tt; answer = unfinished h (Err HandshakeError.BadState) 0; taken = 0 } → Received h m out out r
unfolding is_sound
received-damaged h m out l e = record { damaged = λ _. (e, refl); received = λ t. absurd (false≢true (sym (lt-leb h.name.length 254 l) ∙ t)) }

pub received : (h : EisHandshaker) (m : List ℕ) {out later : List ℕ} {reading : rust.Result First Unhanded} {r : HandshakeReceived} → h.name.length ≤ 254
    → reading ≡ reading_of h.next m → Follows reading h m out later r → Received h m out later r
unfolding view_of
received h m {out} {later} {r = r} l e f =
    record {
      damaged = λ t. absurd (false≢true (sym t ∙ sound_is h l));
      received = λ _. subst (λ (x : rust.Result First Unhanded). Follows x h m out later r) e f;
    }

-- "a refused message takes nothing"
pub taken-ok : (o : HandshakeOutcome) (n : ℕ) → true ≡ is_ok o → n ≡ cond (is_refusal o) 0 n
taken-ok (Ok s) n t = refl
taken-ok (Err e) n t = absurd (false≢true (sym t))

pub taken-err : (o : HandshakeOutcome) (n : ℕ) → false ≡ is_ok o → 0 ≡ cond (is_refusal o) 0 n
taken-err (Ok s) n t = absurd (false≢true t)
taken-err (Err e) n t = refl

-- ---- what a call promised

-- the request that was handed on
abbrev pub handed_in : rust.Result First Unhanded → (message : List ℕ) → paper.Message
handed_in (Ok x) m = request_in x.arguments (take x.length m)
handed_in (Err why) m = paper.Message.Finish

-- where one was, the handshake's own call was made
pub handed-handled : (h : EisHandshaker) (m : List ℕ) {out later : List ℕ} {r : HandshakeReceived} → Received h m out later r → is_handed r.told ≡ true
    → Handled h (handed_in (reading_of h.next m) m) out later r.answer
unfolding view_of
handed-handled h m {out} {later} {r} a t =
    record {
      damaged = λ d. (ap (λ (x : HandshakeReceived). x.answer) (a.damaged d).0, (a.damaged d).1);
      done = λ s. go (reading_of h.next m) (a.received s);
    }
  where
    go : (x : rust.Result First Unhanded) → Follows x h m out later r → Done h out later (paper.handle_request (view_of h) (handed_in x m) (length out)) r.answer
    go (Ok x) f = f.done
    go (Err why) f = absurd (false≢true (sym (ap (λ (y : HandshakeReceived). is_handed y.told) f.0) ∙ t))
