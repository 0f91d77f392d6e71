-- What an answer leaves in the slices, and a message's answer as that of a call on them. Assumes nothing.
use Prim.Native.Nat.{ℕ}
use mathlib.Core.Path.{◌≡◌, refl, sym, ap, subst, ◌∙◌}
use mathlib.Core.Bool.{Bool, true, false, ◌&&◌, false≢true}
use mathlib.Core.List.{List}
use borrow.Author.Tests.{eq-eqb}
use lib.Dec.{eqb}
use lib.ListN.{length, get_or}
use Rattle.control.specs.Control.{control_length}
use Rattle.converter.specs.Next.{Begins}
use Rattle.std.specs.Prelude.{Result}
use Rattle.answers.specs.declared.Answer.{Answer}
use Rattle.answers.specs.declared.Error.{Error}
use Rattle.std.specs.Prelude.{Some, None, Ok, Err}
use Rattle.std.specs.Prelude as rust
use Rattle.std.specs.Result.{is_ok}
use Rattle.handshake.specs.Handshake as paper
use Rattle.handshake.specs.View.{view_of, is_sound, HandshakeOutcome, is_refusal, is_finished}
use Rattle.handshake.specs.View as view
use Rattle.handshake.specs.declared.handshake.EisHandshaker.{EisHandshaker}
use Rattle.handshake.specs.declared.handshake.HandshakeError.{HandshakeError}
use Rattle.handshake.specs.declared.handshake.EisHandshakeResp.{EisHandshakeResp}
use Rattle.handshake.specs.declared.handshake.HandshakeAnswer.{HandshakeAnswer}
use Rattle.handshake_messages.specs.Reading.{reading_of, handshake_reading, Told, is_handed}
use Rattle.handshake_messages.specs.Reading as by_value
use Rattle.parse.specs.declared.First.{First}
use Rattle.handshake_messages.specs.declared.Unhanded.{Unhanded}
use Rattle.handshake_messages.specs.declared.HandshakeReceived.{HandshakeReceived}
use Rattle.handshake_messages.proofs.Receipts.{handed_in, handed-handled}
use Rattle.lent_handshake.specs.Lent.{handshake_in, is_lent, is_held, Handled, Finished, Holds, Begun, Settled, Untouched, damaged_reply, Follows, Received}
use Rattle.lent_handshake.specs.declared.MessageReply.{MessageReply}
use Rattle.lent_handshake.proofs.Words.{held-sound}
use Rattle.lent_handshake.proofs.Replies.{Kept, reply_of, accepted-sound, refused-handled, stored-handled, settles, and-true, unlent_whole, finished, unsettled, settled-begun}

-- ---- what an answer leaves

module _ {w n c : List ℕ} (a : HandshakeAnswer) where
  pub refused-settled : (e : HandshakeError) → a.outcome ≡ Err e → Settled w n w n c c a
  refused-settled e q =
      record {
        refused = λ _. (refl, refl);
        stored = λ f. absurd (false≢true (sym f ∙ ap is_refusal q));
        control = λ _. refl;
        begun = λ p x. absurd (unsettled a.outcome p (ap is_finished q) x);
      }

  module _ {v m : List ℕ} (k : Kept v m a.handshaker) where
    pub stored-settled : a.outcome ≡ Ok None → Settled w n v m c c a
    stored-settled q =
        record {
          refused = λ f. absurd (false≢true (sym (ap is_refusal q) ∙ f));
          stored = λ _. k;
          control = λ _. refl;
          begun = λ p x. absurd (unsettled a.outcome p (ap is_finished q) x);
        }

    pub begun-settled : {d : List ℕ} {p : EisHandshakeResp} {s : Result Answer Error} → a.outcome ≡ Ok (Some p) → length c ≡ control_length → Begins c d p s → Settled w n v m c d a
    begun-settled q l b =
        record {
          refused = λ f. absurd (false≢true (sym (ap is_refusal q) ∙ f));
          stored = λ _. k;
          control = λ f. absurd (false≢true (sym f ∙ ap is_finished q));
          begun = λ p x. settled-begun p l b q x;
        }

no_finish : (o : HandshakeOutcome) → is_refusal o ≡ true → is_finished o ≡ false
no_finish (Ok s) e = absurd (false≢true e)
no_finish (Err x) e = refl

-- an answer to a request on the handshake h that the slices w and n hold, kept
module _ (w n : List ℕ) (h : EisHandshaker) (lent : is_lent w n ≡ true) (is : view_of h ≡ handshake_in w n) (long : h.name.length ≡ get_or w 0 0)
    (request : paper.Message) {out later : List ℕ} {r : HandshakeAnswer} (a : view.Handled h request out later r) {v m c d : List ℕ} (s : Settled w n v m c d r) where
  pub settled-handled : Handled w n v m out later request (reply_of r)
  settled-handled = go (is_refusal r.outcome) refl
    where
      go : (b : Bool) → is_refusal r.outcome ≡ b → Handled w n v m out later request (reply_of r)
      go true e = rw ((s.refused e).0, (s.refused e).1) (refused-handled w n h lent is long request a e)
      go false e = stored-handled w n h lent is long request a e (s.stored e)

  pub settled-finished : length c ≡ control_length → request ≡ paper.Message.Finish → Finished w n v m c d out later (reply_of r)
  settled-finished l e =
      finished l (rw e at settled-handled) (λ f. s.control (no_finish r.outcome f))
      (λ p t x. s.begun p (settles w n h lent is long request a p t (rw e x)))

-- ---- a message

untouched : {w n c out : List ℕ} {s r : MessageReply} → r ≡ s → Untouched w n w n c c out out s r
untouched e = record { reply = e; words = refl; name = refl; control = refl; bytes = refl }

pub unlent_received : {w n c message out : List ℕ} {r : MessageReply} → (is_lent w n && eqb (length c) control_length) ≡ false → r ≡ damaged_reply
    → Received w n w n c c message out out r
unlent_received {w} {n} {c} d e = record { damaged = λ _. untouched e; received = λ t. absurd (false≢true (sym (unlent_whole w n c d) ∙ t)) }

-- the reply to a message that was read
abbrev pub reply_in : HandshakeReceived → MessageReply
reply_in r = record { told = r.told; reply = reply_of r.answer; taken = r.taken }

-- by what `is_ok` answers
pub ok_handed : (t : Told) → true ≡ is_ok t → is_handed t ≡ true
ok_handed (Ok u) e = refl
ok_handed (Err why) e = absurd (false≢true (sym e))

pub not-ok_unhanded : (t : Told) → false ≡ is_ok t → is_handed t ≡ false
not-ok_unhanded (Ok u) e = absurd (false≢true e)
not-ok_unhanded (Err why) e = refl

-- what was handed on and not refused can be stored
pub handed-sound : (h : EisHandshaker) (message : List ℕ) {out later : List ℕ} {r : HandshakeReceived} → by_value.Received h message out later r
    → is_handed r.told ≡ true → is_refusal r.answer.outcome ≡ false → is_sound r.answer.handshaker ≡ true
handed-sound h message a t f = let k = handed-handled h message a t in (k.done (accepted-sound h k f)).meets.sound

-- the handshake h that the slices w and n hold, beside control words c
module _ (w n c : List ℕ) (h : EisHandshaker) (lent : is_lent w n ≡ true) (is : view_of h ≡ handshake_in w n) (long : h.name.length ≡ get_or w 0 0)
    (controlled : length c ≡ control_length) (message : List ℕ) {out later : List ℕ} {r : HandshakeReceived} (a : by_value.Received h message out later r) where
  whole : (is_held w n && eqb (length c) control_length) ≡ is_sound h
  whole = and-true (is_held w n) (eqb (length c) control_length) (eq-eqb (length c) control_length controlled) ∙ held-sound w n h lent long

  same : reading_of h.next message ≡ handshake_reading (handshake_in w n) message
  unfolding view_of
  same = ap (λ (x : paper.Handshake). reading_of x.next_id message) is

  -- nothing was handed on, and nothing is stored
  pub nothing-received : is_handed r.told ≡ false → Received w n w n c c message out later (reply_in r)
  unfolding view_of
  nothing-received f =
      record {
        damaged = λ d. absurd (false≢true (sym f ∙ ap (λ (x : HandshakeReceived). is_handed x.told) (a.damaged (sym whole ∙ d)).0));
        received = λ t. subst (λ (x : rust.Result First Unhanded). Follows x w n w n c c message out later (reply_in r)) same (go (reading_of h.next message) (a.received (sym whole ∙ t)));
      }
    where
      left : {s : HandshakeReceived} → (r ≡ s) × (later ≡ out) → Untouched w n w n c c out later (reply_in s) (reply_in r)
      left e = record { reply = ap reply_in e.0; words = refl; name = refl; control = refl; bytes = e.1 }

      go : (x : rust.Result First Unhanded) → by_value.Follows x h message out later r → Follows x w n w n c c message out later (reply_in r)
      go (Ok x) e = absurd (false≢true (sym f ∙ ap is_handed e.told))
      go (Err why) e = left e

  -- a request was handed on, and its answer is kept
  module _ (t : is_handed r.told ≡ true) where
    handled : view.Handled h (handed_in (reading_of h.next message) message) out later r.answer
    handled = handed-handled h message a t

    module _ {v m d : List ℕ} (s : Settled w n v m c d r.answer) where
      pub handed-received : Received w n v m c d message out later (reply_in r)
      unfolding view_of
      handed-received =
          record {
            damaged = λ x.
                let e = a.damaged (sym whole ∙ x) in
                let f = ap (λ (y : HandshakeReceived). is_refusal y.answer.outcome) e.0 in
                let g = ap (λ (y : HandshakeReceived). is_finished y.answer.outcome) e.0 in
                record { reply = ap reply_in e.0; words = (s.refused f).0; name = (s.refused f).1; control = s.control g; bytes = e.1 };
            received = λ x.
                subst (λ (y : rust.Result First Unhanded). Follows y w n v m c d message out later (reply_in r)) same
                (go (reading_of h.next message) (a.received (sym whole ∙ x)) ((settled-handled w n h lent is long _ handled s).handled (held x)) (λ p q. s.begun p (settles w n h lent is long _ handled p (held x) q)));
          }
        where
          held : (is_held w n && eqb (length c) control_length) ≡ true → is_held w n ≡ true
          held x = held-sound w n h lent long ∙ sym whole ∙ x

          not : {y : HandshakeReceived} {P : Type 0} → r ≡ y → is_handed y.told ≡ false → P
          not e f = absurd (false≢true (sym f ∙ sym (ap (λ (x : HandshakeReceived). is_handed x.told) e) ∙ t))

          go : (y : rust.Result First Unhanded) → by_value.Follows y h message out later r
              → Holds v m out later (paper.handle_request (handshake_in w n) (handed_in y message) (length out)) (reply_of r.answer)
              → ((p : paper.Response) → (paper.handle_request (handshake_in w n) (handed_in y message) (length out)).outcome ≡ paper.Result.finished p → Begun d p)
              → Follows y w n v m c d message out later (reply_in r)
          go (Err why) e k b = not e.0 refl
          go (Ok x) e k b =
              record { told = e.told; taken = e.taken; handled = k; kept = s.refused; control = s.control; begun = b }
