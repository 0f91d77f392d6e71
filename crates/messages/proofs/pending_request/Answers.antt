-- 21, then a header, then the object. Assumes nothing.
use Prim.Native.Nat.{ℕ}
use mathlib.Core.Path.{◌≡◌, refl, sym, ap, ◌∙◌}
use mathlib.Core.Bool.{true, false≢true}
use mathlib.Core.List.{List}
use native.Mathlib.Omega.{arith}
use Rattle.model.specs.Session.{view}
use lib.Ieee.{Float}
use Rattle.session.specs.declared.LentSession.{LentSession}
use Rattle.session.specs.Loan.{store_of}
use Rattle.session.specs.View.{Store, store, session, is_whole}
use Rattle.session.proofs.Views.{whole_parts, lent-part}
use Rattle.answers.proofs.Meetings.{failed, passed}
use Rattle.objects.specs.Answer.{object_told}
use Rattle.messages.specs.Received.{Received, ReceivedAs, ReceivedFrom}
use Rattle.messages.specs.Reading.{reading}
use Rattle.messages.proofs.Bytes.{no_header, not-alive, alive}
use Rattle.std.proofs.lemmas.Bool.{not_from_false, not_from_true}
use Rattle.messages.proofs.pending_request.Goals as goal

-- behind 21's test
whole-received : {s e : Store} {out later bytes : List ℕ} {clock : ℕ} {r : Received} → is_whole s ≡ true → ReceivedAs s e out later (reading (view (session s)) bytes) clock r
    → ReceivedFrom s e out later bytes clock r
whole-received w h = record { damaged = λ d. absurd (false≢true (sym d ∙ w)); read = λ _. h }

-- e is what was lent on, as the call left it
received-back : {s : Store} {d v t : List ℕ} {p : List Float} {out later bytes : List ℕ} {clock : ℕ} {r : Received} (e : LentSession)
    → d ≡ e.control.now → v ≡ e.words.now → p ≡ e.reals.now
    → ReceivedFrom s (store_of e t) out later bytes clock r → ReceivedFrom s (store d v p t) out later bytes clock r
received-back e is_control is_words is_reals h = rw (is_control, is_words, is_reals) h

pub invariant_of-session : goal.invariant_of-session
invariant_of-session c =
    let a = c.args in
    let s = store a.control.now a.words.now a.reals.now a.texts.now in
    record { lent = lent-part s (whole_parts s (passed c.whole.ensures (not_from_true _ c.if-not-whole.false))) }

pub returns-then-not-whole : goal.returns-then-not-whole
returns-then-not-whole c =
    let d = failed c.whole.ensures (not_from_false _ c.if-not-whole.true) in
    record {
      damaged = λ _. (refl, (refl, refl));
      read = λ w. absurd (false≢true (sym d ∙ w));
    }

pub returns-then-message-lt-HEADER_LENGTH : goal.returns-then-message-lt-HEADER_LENGTH
returns-then-message-lt-HEADER_LENGTH c =
    let whole_at : let a = c.args in is_whole (store a.control.now a.words.now a.reals.now a.texts.now) ≡ true = passed c.whole.ensures (not_from_true _ c.if-not-whole.false) in
    let a = c.args in
    whole-received whole_at (rw (no_header (view (session (store a.control.now a.words.now a.reals.now a.texts.now))) a.message.now (omega arith)) (refl, (refl, refl)))

pub find_object-requires : goal.find_object-requires
find_object-requires c =
    let whole_at : let a = c.args in is_whole (store a.control.now a.words.now a.reals.now a.texts.now) ≡ true = passed c.whole.ensures (not_from_true _ c.if-not-whole.false) in
    (whole_parts _ whole_at).sound

pub receive_on-requires : goal.receive_on-requires
receive_on-requires c =
    let whole_at : let a = c.args in is_whole (store a.control.now a.words.now a.reals.now a.texts.now) ≡ true = passed c.whole.ensures (not_from_true _ c.if-not-whole.false) in
    (whole_parts _ whole_at, omega arith)

pub returns-in_default : goal.returns-in_default
returns-in_default c =
    let whole_at : let a = c.args in is_whole (store a.control.now a.words.now a.reals.now a.texts.now) ≡ true = passed c.whole.ensures (not_from_true _ c.if-not-whole.false) in
    let a = c.args in
    let s = store a.control.now a.words.now a.reals.now a.texts.now in
    whole-received whole_at
    (rw (not-alive (view (session s)) a.message.now (omega arith) c.number64-object.ensures (sym (ap object_told c.in_default.is) ∙ c.find_object.ensures a.words.now a.reals.now a.texts.now))
    (refl, (refl, refl)))

pub returns : goal.returns
returns c =
    let whole_at : let a = c.args in is_whole (store a.control.now a.words.now a.reals.now a.texts.now) ≡ true = passed c.whole.ensures (not_from_true _ c.if-not-whole.false) in
    let a = c.args in
    let s = store a.control.now a.words.now a.reals.now a.texts.now in
    received-back c.receive_on.new.session (grind arith) (grind arith) (grind arith)
    (whole-received whole_at
    (rw (alive (view (session s)) a.message.now (omega arith) c.number64-object.ensures _ (sym (ap object_told c.in-Some.is) ∙ c.find_object.ensures a.words.now a.reals.now a.texts.now))
    c.receive_on.ensures.step))
