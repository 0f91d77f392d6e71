-- Rust's `Option` as that of the definitions. Assumes nothing.
use Rattle.std.specs.Prelude.{Option, Some, None}
use Rattle.std.proofs.Math.Option as math

abbrev pub told : {A : Type 0} → Option A → math.Option A
told None = math.none
told (Some x) = math.some x
