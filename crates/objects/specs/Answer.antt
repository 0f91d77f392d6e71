-- What the readers' answers say, as the model's values. Assumes nothing.
use Rattle.std.specs.Prelude.{Option, Some, None}
use Rattle.std.proofs.Math.Option as math
use Rattle.model.specs.Live.{Object as Alive}
use Rattle.objects.specs.declared.Object.{Object}

-- the object that lives
abbrev pub object_told : Option Object → math.Option Alive
object_told None = math.none
object_told (Some o) = math.some (record { interface = o.interface; version = o.version })
