-- The trial lines hold, by computation. Assumes nothing.
use mathlib.Core.Path.{◌≡◌, refl}
use mathlib.Core.List.{map}
use Rattle.model_reads.specs.Trials.{computed, expected}
use Rattle.messages.specs.Reading.{reading}
use Rattle.messages.specs.Trials.{trials}

pub trial-lines : map (computed reading) trials ≡ map expected trials
unfolding computed expected reading
trial-lines = refl
