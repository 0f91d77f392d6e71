-- 0 / 0 is the NaN. Assumes nothing.
use Rattle.std.proofs.Common.{◌≡◌, refl}
use lib.Ieee.{Float, nan, div, of_bits}
use Rattle.script.specs.declared.value.Value.{Value}
use Rattle.script.specs.Told.{f32_of}
use Rattle.script.proofs.value.f32_of.Goals as goal

no_float : (v : Value) → ((x : Float) → v ≡ Value.F32 x → ⊥) → nan ≡ f32_of v
no_float Value.Nothing n = refl
no_float (Value.U64 m) n = refl
no_float (Value.U32 m) n = refl
no_float (Value.I32 z) n = refl
no_float (Value.F32 x) n = absurd (n x refl)
no_float (Value.Text t) n = refl
no_float Value.NoText n = refl
no_float (Value.Part p) n = refl

pub returns-in_default : goal.returns-in_default
unfolding div of_bits
returns-in_default c = no_float c.args.v c.in_default.not-F32
