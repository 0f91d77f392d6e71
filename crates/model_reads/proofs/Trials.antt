-- The trial lines hold, by computation. Assumes nothing.
use mathlib.Core.Path.{◌≡◌, refl}
use mathlib.Core.List.{map}
use Rattle.model_reads.specs.Message.{Reading}
use Rattle.model_reads.specs.Trials.{trials, computed, expected}

pub trial-lines : map (computed (λ v bytes. Reading.wait)) trials ≡ map expected trials
unfolding computed expected
trial-lines = refl
