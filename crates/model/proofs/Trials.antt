-- The trial lines hold, and what is warned of does not, by computation. Assumes nothing.
use mathlib.Core.Path.{◌≡◌, refl}
use mathlib.Core.List.{List, ◌++◌, map}
use Rattle.model.specs.Trials.{Trial, starred, unstarred, false_friends, ids_spent, released, computed, expected}

abbrev trials : List Trial
trials = starred ++ (unstarred ++ (false_friends ++ (ids_spent ++ released)))

pub trial-lines : map computed trials ≡ map expected trials
unfolding computed expected
trial-lines = refl
