-- What is asked for behind the tests of `add_device`. Assumes nothing.
use Rattle.std.specs.Prelude.{ℕ, ◌<◌, ◌≡◌, List, eqb, Ok}
use Rattle.std.proofs.Math.Option.{Option, some}
use Rattle.control.specs.Table.{first}
use Rattle.eiproto.specs.Bits.{common}
use Rattle.model.specs.Decide.{negotiated_capabilities}
use Rattle.control.specs.Control.{seat_at, connection_of}
use Rattle.control.specs.Sound.{Sound}
use Rattle.answers.specs.Check.{Checks}

-- what a device on the seat in slot k is made with: capabilities that the seat has too, and that were negotiated
abbrev pub made_with : (control : List ℕ) (k capabilities : ℕ) → ℕ
made_with control k capabilities = common (common capabilities (seat_at control k).capabilities) (negotiated_capabilities (connection_of control))

-- neither 21, nor 10 or 11, nor 13, nor 12: the seat is in slot k
pub record Tested (control : List ℕ) (k seat : ℕ) (name : Option (List ℕ)) (capabilities : ℕ) : Type 0 where
  pub sound : Sound control
  pub fine : Checks name (Ok tt)
  pub known : capabilities < 128
  pub found : first (λ t. eqb t.id seat) (connection_of control).seats ≡ some k
