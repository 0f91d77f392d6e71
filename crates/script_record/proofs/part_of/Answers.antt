-- The part of the first word, or of the second. Assumes nothing.
use Rattle.std.proofs.Common.{◌≡◌, refl, cond}
use Rattle.script.specs.declared.text.Part.{Part}
use Rattle.script.specs.declared.value.Value.{Value}
use Rattle.script.specs.Told.{part_in}
use Rattle.script_record.specs.Record.{has_part}
use Rattle.script_record.proofs.part_of.Goals as goal

second : (v w : Value) → ((p : Part) → v ≡ Value.Part p → ⊥) → part_in w ≡ cond (has_part v) (part_in v) (part_in w)
second Value.Nothing w n = refl
second (Value.U64 m) w n = refl
second (Value.U32 m) w n = refl
second (Value.I32 z) w n = refl
second (Value.F32 x) w n = refl
second (Value.Text t) w n = refl
second Value.NoText w n = refl
second (Value.Part p) w n = absurd (n p refl)

pub returns-in_default : goal.returns-in_default
returns-in_default c = rw c.part_of.ensures (second c.args.args.a c.args.args.b c.in_default.not-Part)
