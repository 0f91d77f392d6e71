-- What the model plans for a request that is not timed. Assumes nothing.
use Rattle.std.specs.Prelude.{Result}
use Rattle.model.specs.Plan as plan
use Prim.Native.Nat.{ℕ, ◌≤◌, ◌<◌}
use mathlib.Core.Path.{◌≡◌, refl}
use mathlib.Core.Bool.{true, false}
use mathlib.Core.List.{List}
use borrow.Author.Tests.{lt-ltb, le-ltb}
use lib.ListN.{length}
use Rattle.utf8.specs.Rfc3629.{is_utf8}
use Rattle.model.specs.Call.{Input, Plain, Call, HandshakeRequest, map_call}
use Rattle.model.specs.Session.{View, view}
use Rattle.model.specs.Plan.{answer, refuse, ignore}
use Rattle.model.specs.Decide.{check_utf8, check_name, handle_handshake, decide_plain, decide}
use Rattle.session.specs.View.{Store, session, Whole}
use Rattle.answers.specs.Answer.{error_of, Tells}
use Rattle.answers.specs.Meets.{Handled}
use Rattle.answers.specs.declared.Error.{Error}
use Rattle.answers.specs.declared.Answer.{Answer}
use Rattle.client_requests.proofs.Handling.{handled-answer}

-- the same call, told otherwise
pub for_call : {s e : Store} {out later : List ℕ} {x y : Call Input} {r : Result Answer Error} (clock : ℕ) → x ≡ y → Handled s e out later y clock r → Handled s e out later x clock r
for_call clock p h = rw p h

-- a call of which the plan is an answer
module _ (s : Store) (out : List ℕ) (clock : ℕ) (r : Result Answer Error) (w : Whole s) where
  plain-answer : (c : Plain) {o : plan.Result} → ((v : View) → decide_plain v clock c ≡ answer o) → Tells r o 0 → Handled s s out out (Call.plain c) clock r
  unfolding map_call decide
  plain-answer c e a = handled-answer s out (Call.plain c) clock r w (e (view (session s))) a

  -- ---- a handshake's requests

  module _ (text : List ℕ) where
    pub name-bad : is_utf8 text ≡ false → Tells r (error_of Error.BadUtf8) 0 → Handled s s out out (Call.plain (Plain.handshake (HandshakeRequest.Name text))) clock r
    unfolding decide_plain handle_handshake check_name check_utf8 refuse
    name-bad h a = plain-answer (Plain.handshake (HandshakeRequest.Name text)) (λ v. rw h) a

    pub name-long : is_utf8 text ≡ true → 254 < length text → Tells r (error_of Error.NameLong) 0 → Handled s s out out (Call.plain (Plain.handshake (HandshakeRequest.Name text))) clock r
    unfolding decide_plain handle_handshake check_name check_utf8 refuse
    name-long h l a = plain-answer (Plain.handshake (HandshakeRequest.Name text)) (λ v. rw (h, lt-ltb 254 (length text) l)) a

    pub name_late : is_utf8 text ≡ true → length text ≤ 254 → Tells r (error_of Error.UnexpectedHandshakeEvent) 0
        → Handled s s out out (Call.plain (Plain.handshake (HandshakeRequest.Name text))) clock r
    unfolding decide_plain handle_handshake check_name check_utf8 refuse
    name_late h l a = plain-answer (Plain.handshake (HandshakeRequest.Name text)) (λ v. rw (h, le-ltb 254 (length text) l)) a

    pub interface-bad : (version : ℕ) → is_utf8 text ≡ false → Tells r (error_of Error.BadUtf8) 0
        → Handled s s out out (Call.plain (Plain.handshake (HandshakeRequest.InterfaceVersion text version))) clock r
    unfolding decide_plain handle_handshake check_utf8 refuse
    interface-bad version h a = plain-answer (Plain.handshake (HandshakeRequest.InterfaceVersion text version)) (λ v. rw h) a

    pub interface_late : (version : ℕ) → is_utf8 text ≡ true → Tells r (error_of Error.UnexpectedHandshakeEvent) 0
        → Handled s s out out (Call.plain (Plain.handshake (HandshakeRequest.InterfaceVersion text version))) clock r
    unfolding decide_plain handle_handshake check_utf8 refuse
    interface_late version h a = plain-answer (Plain.handshake (HandshakeRequest.InterfaceVersion text version)) (λ v. rw h) a

  module _ (a : Tells r (error_of Error.UnexpectedHandshakeEvent) 0) where
    pub version_late : (version : ℕ) → Handled s s out out (Call.plain (Plain.handshake (HandshakeRequest.HandshakeVersion version))) clock r
    unfolding decide_plain handle_handshake refuse
    version_late version = plain-answer (Plain.handshake (HandshakeRequest.HandshakeVersion version)) (λ v. refl) a

    pub finish_late : Handled s s out out (Call.plain (Plain.handshake HandshakeRequest.Finish)) clock r
    unfolding decide_plain handle_handshake refuse
    finish_late = plain-answer (Plain.handshake HandshakeRequest.Finish) (λ v. refl) a

    pub context_late : (type : ℕ) → Handled s s out out (Call.plain (Plain.handshake (HandshakeRequest.ContextType type))) clock r
    unfolding decide_plain handle_handshake refuse
    context_late type = plain-answer (Plain.handshake (HandshakeRequest.ContextType type)) (λ v. refl) a

  pub pingpong : Tells r plan.Result.accepted 0 → Handled s s out out (Call.plain Plain.pingpong_done) clock r
  unfolding decide_plain ignore
  pingpong a = plain-answer Plain.pingpong_done (λ v. refl) a
