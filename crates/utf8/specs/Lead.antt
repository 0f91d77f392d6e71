-- What the code makes of a character's first octet and of each further one, in the terms of the grammar. Assumes nothing.
use Rattle.std.specs.Prelude.{ℕ, Bool, false, List, [], ◌∷◌, replicate}
use Rattle.std.proofs.Math.Option.{Option, none, some}
use Rattle.utf8.specs.Rfc3629.{Range, utf8_tail, within}
use Rattle.utf8.specs.declared.Lead.{Lead}
use Rattle.utf8.specs.declared.Lead.TheVariants.{Alone, More, Bad}

-- what follows the first octet: nothing where no character begins with it
unfoldable pub asked : Lead → Option (List Range)
unfolding utf8_tail
asked Alone = some []
asked (More low high tails) = some ((low, high) ∷ replicate tails utf8_tail)
asked Bad = none

-- the text begins with an octet within the range
unfoldable pub begins : Range → List ℕ → Bool
unfolding within
begins r [] = false
begins r (x ∷ l) = within r x
