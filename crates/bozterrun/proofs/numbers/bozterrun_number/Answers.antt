-- The table is the definitions', number by number. Assumes nothing.
use mathlib.Core.Path.{◌≡◌, refl, sym}
use native.Mathlib.Omega.{arith}
use lib.ListN.{length, get_or-eq_default}
use Rattle.model.specs.Plan.{refusal}
use Rattle.answers.specs.Answer.{number_of}
use Rattle.bozterrun.specs.Numbers.{numbers}
use Rattle.bozterrun.proofs.numbers.bozterrun_number.Goals as goal

numbers-long : length numbers ≡ 129
unfolding numbers number_of refusal
numbers-long = refl

pub returns-then-place-lt-NUMBERS : goal.returns-then-place-lt-NUMBERS
unfolding numbers number_of refusal
returns-then-place-lt-NUMBERS c = refl

pub returns-else-place-lt-NUMBERS : goal.returns-else-place-lt-NUMBERS
returns-else-place-lt-NUMBERS c = sym (get_or-eq_default numbers 0 (omega (arith, numbers-long)))
