-- What is asked for behind the tests of `add_seat`. Assumes nothing.
use Rattle.std.specs.Prelude.{ℕ, ◌<◌, List, Ok}
use Rattle.std.proofs.Math.Option.{Option}
use Rattle.control.specs.Sound.{Sound}
use Rattle.answers.specs.Check.{Checks}

-- neither 21, nor 10 or 11, nor 13
pub record Tested (control : List ℕ) (name : Option (List ℕ)) (capabilities : ℕ) : Type 0 where
  pub sound : Sound control
  pub fine : Checks name (Ok tt)
  pub known : capabilities < 128
