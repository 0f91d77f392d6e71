-- What the handshake behind the slices answers, as the answer of a call on them. Assumes nothing.
use Prim.Native.Nat.{ℕ, ◌≤◌, ◌<◌}
use mathlib.Core.Path.{◌≡◌, refl, sym, ap, subst, ◌∙◌}
use mathlib.Core.Bool.{Bool, true, false, cond, ◌&&◌, false≢true}
use mathlib.Core.List.{List}
use mathlib.Core.Option.{Option, none, some}
use native.Mathlib.Omega.{arith}
use borrow.Author.Tests.{eq-eqb, eqb-true, le-leb, lt-leb}
use lib.Dec.{eqb, leb}
use lib.ListN.{length, get_or}
use Rattle.std.specs.Prelude.{Some, None, Ok, Err}
use Rattle.std.specs.Prelude as rust
use Rattle.std.specs.Result.{is_ok}
use Rattle.eiproto.specs.Told.{told}
use Rattle.handshake.specs.Handshake as paper
use Rattle.handshake.specs.View.{view_of, name_of, response_of, HandshakeOutcome, outcome_of, is_refusal, is_sound, Meets, Done}
use Rattle.handshake.specs.View as view
use Rattle.handshake.specs.declared.handshake.EisHandshaker.{EisHandshaker}
use Rattle.handshake.specs.declared.handshake.EisHandshakeResp.{EisHandshakeResp}
use Rattle.handshake.specs.declared.handshake.HandshakeError.{HandshakeError}
use Rattle.handshake.specs.declared.handshake.HandshakeAnswer.{HandshakeAnswer}
use Rattle.control.specs.Control.{control_length}
use Rattle.converter.specs.Next.{Begins}
use Rattle.std.specs.Prelude.{Result}
use Rattle.answers.specs.declared.Answer.{Answer}
use Rattle.answers.specs.declared.Error.{Error}
use Rattle.lent_handshake.specs.Lent.{name_length, handshake_in, name_at, context_at, context_number, is_lent, is_held, Refused21, Holds, Started, Handled, Begun, Finished, Named}
use Rattle.lent_handshake.specs.declared.HandshakeReply.{HandshakeReply}
use Rattle.lent_handshake.specs.declared.Client.{Client}
use Rattle.lent_handshake.proofs.Words.{both, unlent_held, held-sound}

-- the slices hold this handshake
abbrev pub Kept : (v m : List ℕ) → EisHandshaker → Type 0
Kept v m h = (is_held v m ≡ true) × (handshake_in v m ≡ view_of h)

-- the reply is `bad_state`'s
abbrev pub Bad : HandshakeReply → Type 0
Bad r = (r.outcome ≡ Err HandshakeError.BadState) × (r.count ≡ 0)

abbrev pub reply_of : HandshakeAnswer → HandshakeReply
reply_of r = record { outcome = r.outcome; count = r.count }

bad-refused : {w n out : List ℕ} {r : HandshakeReply} → Bad r → Refused21 w n w n out out r
bad-refused e = record { outcome = e.0; count = e.1; words = refl; name = refl; bytes = refl }

-- by what `is_ok` answers
pub ok_accepted : (o : HandshakeOutcome) → true ≡ is_ok o → is_refusal o ≡ false
ok_accepted (Ok s) t = refl
ok_accepted (Err e) t = absurd (false≢true (sym t))

pub not-ok_refused : (o : HandshakeOutcome) → false ≡ is_ok o → is_refusal o ≡ true
not-ok_refused (Ok s) t = absurd (false≢true t)
not-ok_refused (Err e) t = refl

holds : {v m out later : List ℕ} {s : paper.Step} {r : HandshakeAnswer} → Meets out later s r → Kept v m r.handshaker → Holds v m out later s (reply_of r)
holds {r = r} a k =
    record {
      held = k.0;
      handshake = k.1 ∙ a.handshake;
      outcome = a.outcome;
      count = a.count;
      bytes = a.buffer;
    }

-- ---- `new`

pub unlent_started : {w n out : List ℕ} {serial : ℕ} {r : HandshakeReply} → is_lent w n ≡ false → Bad r → Started w n w n out out serial r
unlent_started d e = record { damaged = λ _. bad-refused e; started = λ l. absurd (false≢true (sym d ∙ l)) }

pub lent-started : {w n v m out later : List ℕ} {serial : ℕ} {r : HandshakeAnswer} → is_lent w n ≡ true
    → Meets out later (paper.start serial (length out)) r → Kept v m r.handshaker → Started w n v m out later serial (reply_of r)
lent-started l a k = record { damaged = λ d. absurd (false≢true (sym d ∙ l)); started = λ _. holds a k }

-- ---- a message

pub unlent_handled : {w n out : List ℕ} {message : paper.Message} {r : HandshakeReply} → is_lent w n ≡ false → Bad r → Handled w n w n out out message r
unlent_handled {w} {n} d e =
    record { damaged = λ _. bad-refused e; handled = λ l. absurd (false≢true (sym (unlent_held w n d) ∙ l)); kept = λ _. (refl, refl) }

-- what is no refusal is no 21 either
pub accepted-sound : (h : EisHandshaker) {message : paper.Message} {out later : List ℕ} {r : HandshakeAnswer} → view.Handled h message out later r
    → is_refusal r.outcome ≡ false → is_sound h ≡ true
accepted-sound h {r = r} a f = go (is_sound h) refl
  where
    go : (b : Bool) → is_sound h ≡ b → is_sound h ≡ true
    go true e = e
    go false e = absurd (false≢true (sym f ∙ ap (λ (x : HandshakeAnswer). is_refusal x.outcome) (a.damaged e).0))

-- the handshake h that the slices w and n hold
module _ (w n : List ℕ) (h : EisHandshaker) (lent : is_lent w n ≡ true) (is : view_of h ≡ handshake_in w n) (long : h.name.length ≡ get_or w 0 0)
    (message : paper.Message) {out later : List ℕ} {r : HandshakeAnswer} (a : view.Handled h message out later r) where
  done : is_held w n ≡ true → Done h out later (paper.handle_request (handshake_in w n) message (length out)) r
  done t = rw is at (a.done (sym (held-sound w n h lent long) ∙ t))

  pub refused-handled : is_refusal r.outcome ≡ true → Handled w n w n out later message (reply_of r)
  refused-handled f =
      record {
        damaged = λ d.
            let e = a.damaged (sym (held-sound w n h lent long) ∙ d) in
            record {
              outcome = ap (λ (x : HandshakeAnswer). x.outcome) e.0;
              count = ap (λ (x : HandshakeAnswer). x.count) e.0;
              words = refl;
              name = refl;
              bytes = e.1;
            };
        handled = λ t. holds (done t).meets (t, sym is ∙ ap view_of (sym ((done t).kept f)));
        kept = λ _. (refl, refl);
      }

  pub stored-handled : {v m : List ℕ} → is_refusal r.outcome ≡ false → Kept v m r.handshaker → Handled w n v m out later message (reply_of r)
  stored-handled f k =
      let t = held-sound w n h lent long ∙ accepted-sound h a f in
      record {
        damaged = λ d. absurd (false≢true (sym d ∙ t));
        handled = λ _. holds (done t).meets k;
        kept = λ x. absurd (false≢true (sym f ∙ x));
      }

  -- a Finish that succeeds settles this response
  pub settles : (p : paper.Response) → is_held w n ≡ true → (paper.handle_request (handshake_in w n) message (length out)).outcome ≡ paper.Result.finished p
      → outcome_of r.outcome ≡ paper.Result.finished p
  settles p t e = (done t).meets.outcome ∙ e

-- ---- a Finish

pub and-true : (b c : Bool) → c ≡ true → (b && c) ≡ b
and-true true c e = e
and-true false c e = refl

-- slices that have not the lengths hold nothing
pub unlent_whole : (w n c : List ℕ) → (is_lent w n && eqb (length c) control_length) ≡ false → (is_held w n && eqb (length c) control_length) ≡ false
unfolding is_held
unlent_whole w n c e = go (is_lent w n) (leb (get_or w 0 0) name_length) (eqb (length c) control_length) e
  where
    go : (a b d : Bool) → (a && d) ≡ false → ((a && b) && d) ≡ false
    go true true d f = f
    go true false d f = refl
    go false b d f = refl

pub lent-whole : (w n c : List ℕ) → (is_lent w n && eqb (length c) control_length) ≡ true → (is_lent w n ≡ true) × (length c ≡ control_length)
lent-whole w n c e = let p = both (is_lent w n) (eqb (length c) control_length) e in (p.0, eqb-true (length c) control_length p.1)

pub unlent_finished : {w n c out : List ℕ} {r : HandshakeReply} → (is_lent w n && eqb (length c) control_length) ≡ false → Bad r → Finished w n w n c c out out r
unlent_finished {w} {n} {c} d e =
    let f = unlent_whole w n c d in
    record {
      damaged = λ _. bad-refused e;
      handled = λ t. absurd (false≢true (sym f ∙ t));
      kept = λ _. (refl, (refl, refl));
      begun = λ p t _. absurd (false≢true (sym f ∙ t));
    }

-- a message that is a Finish, with what becomes of the control words
pub finished : {w n v m c d out later : List ℕ} {r : HandshakeReply} → length c ≡ control_length → Handled w n v m out later paper.Message.Finish r
    → (is_refusal r.outcome ≡ true → d ≡ c)
    → ((p : paper.Response) → is_held w n ≡ true → (paper.handle_request (handshake_in w n) paper.Message.Finish (length out)).outcome ≡ paper.Result.finished p → Begun d p)
    → Finished w n v m c d out later r
unfolding paper.handle_request
finished {w} {n} {c = c} l a same begins =
    let e = and-true (is_held w n) (eqb (length c) control_length) (eq-eqb (length c) control_length l) in
    record {
      damaged = λ d. a.damaged (sym e ∙ d);
      handled = λ t. a.handled (sym e ∙ t);
      kept = λ f. ((a.kept f).0, ((a.kept f).1, same f));
      begun = λ p t x. begins p (sym e ∙ t) x;
    }

-- an outcome that is no Finish settles nothing
pub unsettled : (o : HandshakeOutcome) (p : paper.Response) → view.is_finished o ≡ false → outcome_of o ≡ paper.Result.finished p → ⊥
unfolding outcome_of
unsettled (Ok None) p f e = let z : ◌≡◌ {A = ℕ} 0 1 = cc in omega arith
unsettled (Ok (Some s)) p f e = false≢true (sym f)
unsettled (Err x) p f e = let z : ◌≡◌ {A = ℕ} 0 1 = cc in omega arith

same_response : (s p : paper.Response) → paper.Result.finished s ≡ paper.Result.finished p → s ≡ p
same_response s p e = cc

-- the session that `request::new` begins is that of the response
pub settled-begun : {c d : List ℕ} {s : EisHandshakeResp} {a : Result Answer Error} {o : HandshakeOutcome} (p : paper.Response) → length c ≡ control_length → Begins c d s a
    → o ≡ Ok (Some s) → outcome_of o ≡ paper.Result.finished p → Begun d p
unfolding outcome_of response_of
settled-begun {d = d} {s} p l b f e =
    let k : response_of s ≡ p = same_response (response_of s) p (sym (ap outcome_of f) ∙ e) in
    subst (λ (q : paper.Response). Begun d q) k (b.begun l)

-- ---- who the client is

pub unlent_named : {w n : List ℕ} {r : rust.Result Client HandshakeError} → is_lent w n ≡ false → r ≡ Err HandshakeError.BadState → Named w n r
unlent_named {w} {n} d e = record { damaged = λ _. e; known = λ l. absurd (false≢true (sym (unlent_held w n d) ∙ l)) }

is_said : Option (List ℕ) → Bool
is_said none = false
is_said (some x) = true

said : (b : Bool) (x : List ℕ) → is_said (cond b (some x) none) ≡ b
unfolding is_said
said true x = refl
said false x = refl

module _ (w n : List ℕ) (h : EisHandshaker) (lent : is_lent w n ≡ true) (is : view_of h ≡ handshake_in w n) (long : h.name.length ≡ get_or w 0 0) where
  pub long-named : {r : rust.Result Client HandshakeError} → 254 < h.name.length → r ≡ Err HandshakeError.BadState → Named w n r
  unfolding is_sound
  long-named l e =
      record { damaged = λ _. e; known = λ t. absurd (false≢true (sym (lt-leb h.name.length 254 l) ∙ sym (held-sound w n h lent long) ∙ t)) }

  given_is : h.name.given ≡ eqb (get_or w 1 0) 1
  unfolding view_of name_of handshake_in name_at
  given_is = sym (said h.name.given _) ∙ ap (λ (x : paper.Handshake). is_said x.name) is ∙ said (eqb (get_or w 1 0) 1) _

  context_is : told h.context ≡ context_at (get_or w 2 0)
  unfolding view_of handshake_in
  context_is = ap (λ (x : paper.Handshake). x.context_type) is

  pub known-named : (number : ℕ) → h.name.length ≤ 254 → number ≡ context_number (told h.context) → Named w n (Ok (record { length = h.name.length; given = h.name.given; context = number }))
  unfolding is_sound
  known-named number l e =
      let t = held-sound w n h lent long ∙ le-leb h.name.length 254 l in
      let k = e ∙ ap context_number context_is in
      record { damaged = λ d. absurd (false≢true (sym d ∙ t)); known = λ _. λ i. Ok (record { length = long i; given = given_is i; context = k i }) }
