-- The calls that only ask: `last_serial`, `has_interface`, `interface_version`. Assumes nothing.
use Rattle.std.specs.Prelude as std
use Rattle.std.specs.Prelude.{Result, Some, None}
use Rattle.std.specs.Option as option
use Rattle.eiproto.specs.Told.{told}
use Prim.Native.Nat.{ℕ}
use mathlib.Core.Path.{◌≡◌, refl, sym, ap, ◌∙◌}
use mathlib.Core.Bool.{Bool, true, false}
use mathlib.Core.List.{List}
use mathlib.Core.Option.{Option}
use Rattle.eiproto.specs.Interface.{lookup}
use Rattle.utf8.specs.Rfc3629.{is_utf8}
use Rattle.model.specs.Call.{Plain, Call}
use Rattle.model.specs.Session.{Connection, view}
use Rattle.model.specs.Plan.{Plan, answer, refuse}
use Rattle.model.specs.Plan as plan
use Rattle.model.specs.Decide.{check_utf8, is_some, negotiated, version_answer, decide_plain}
use Rattle.control.specs.Control.{connection_of}
use Rattle.session.specs.View.{Store, session, Whole}
use Rattle.session.proofs.Views.{view-connection}
use Rattle.answers.specs.declared.Error.{Error}
use Rattle.answers.specs.declared.Answer.{Answer}
use Rattle.answers.specs.Answer.{error_of, Tells}
use Rattle.answers.specs.Meets.{Handled}
use Rattle.answers.proofs.Meetings.{told-handled}

utf8-fine : (name : List ℕ) (p : Plan) → is_utf8 name ≡ true → check_utf8 name p ≡ p
unfolding check_utf8
utf8-fine name p u = rw u

pub some_is : (v : std.Option ℕ) → is_some (told v) ≡ option.is_some v
unfolding is_some
some_is None = refl
some_is (Some n) = refl

module _ (s : Store) (w : Whole s) (out : List ℕ) (clock : ℕ) where
  pub serial-told : {n : ℕ} {r : Result Answer Error} → n ≡ (connection_of s.control).last_serial → Tells r (plan.Result.value n) 0
      → Handled s s out out (Call.plain Plain.last_serial) clock r
  unfolding decide_plain
  serial-told {n} {r} e told =
      told-handled s out Plain.last_serial clock (plan.Result.value n) r w
      (ap (λ (k : ℕ). answer (plan.Result.value k)) (ap (λ (c : Connection). c.last_serial) (view-connection s) ∙ sym e)) told

  module _ (name : List ℕ) where
    pub has_invalid : {r : Result Answer Error} → is_utf8 name ≡ false → Tells r (error_of Error.BadUtf8) 0
        → Handled s s out out (Call.plain (Plain.has_interface name)) clock r
    unfolding decide_plain check_utf8 refuse
    has_invalid {r} u told = told-handled s out (Plain.has_interface name) clock (error_of Error.BadUtf8) r w (rw u) told

    pub version_invalid : {r : Result Answer Error} → is_utf8 name ≡ false → Tells r (error_of Error.BadUtf8) 0
        → Handled s s out out (Call.plain (Plain.interface_version name)) clock r
    unfolding decide_plain check_utf8 refuse
    version_invalid {r} u told = told-handled s out (Plain.interface_version name) clock (error_of Error.BadUtf8) r w (rw u) told

    -- the version that was negotiated, if any
    module _ (u : is_utf8 name ≡ true) {v : Option ℕ} (e : v ≡ negotiated (connection_of s.control) (lookup name)) where
      seen : negotiated (view (session s)).connection (lookup name) ≡ v
      seen = ap (λ (c : Connection). negotiated c (lookup name)) (view-connection s) ∙ sym e

      pub has-told : (b : Bool) {r : Result Answer Error} → is_some v ≡ b → Tells r (plan.Result.truth b) 0
          → Handled s s out out (Call.plain (Plain.has_interface name)) clock r
      unfolding decide_plain
      has-told b {r} h told =
          told-handled s out (Plain.has_interface name) clock (plan.Result.truth b) r w
          (utf8-fine name _ u ∙ ap (λ (t : Bool). answer (plan.Result.truth t)) (ap is_some seen ∙ h)) told

      pub version_told_lem : (o : plan.Result) {r : Result Answer Error} → version_answer v ≡ o → Tells r o 0
          → Handled s s out out (Call.plain (Plain.interface_version name)) clock r
      unfolding decide_plain
      version_told_lem o {r} h told =
          told-handled s out (Plain.interface_version name) clock o r w
          (utf8-fine name _ u ∙ ap answer (ap version_answer seen ∙ h)) told
