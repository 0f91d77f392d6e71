-- The text of the first word, or of the second. Assumes nothing.
use Rattle.std.proofs.Common.{◌≡◌, refl, cond}
use Rattle.script.specs.declared.text.Text.{Text}
use Rattle.script.specs.declared.value.Value.{Value}
use Rattle.script.specs.Told.{text_in}
use Rattle.script_run.specs.Line.{has_text}
use Rattle.script_run.proofs.call.text_of.Goals as goal

second : (v w : Value) → ((t : Text) → v ≡ Value.Text t → ⊥) → text_in w ≡ cond (has_text v) (text_in v) (text_in w)
second Value.Nothing w n = refl
second (Value.U64 m) w n = refl
second (Value.U32 m) w n = refl
second (Value.I32 z) w n = refl
second (Value.F32 x) w n = refl
second (Value.Text t) w n = absurd (n t refl)
second Value.NoText w n = refl
second (Value.Part p) w n = refl

pub returns-in_default : goal.returns-in_default
returns-in_default c = rw c.text_of.ensures (second c.args.args.a c.args.args.b c.in_default.not-Text)
