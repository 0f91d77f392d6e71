-- What the model plans for a seat that goes. Assumes nothing.
use Prim.Native.Nat.{ℕ}
use mathlib.Core.Path.{◌≡◌}
use mathlib.Core.Option.{none, some}
use lib.Dec.{eqb}
use Rattle.model.specs.Call.{Plain}
use Rattle.model.specs.Session.{view}
use Rattle.model.specs.Plan.{answer, refuse, Result}
use Rattle.model.specs.Decide.{on_found, retire_seat, remove_seat, decide_plain}
use Rattle.control.specs.Table.{first}
use Rattle.control.specs.Control.{connection_of}
use Rattle.session.specs.View.{Store, session}
use Rattle.session.proofs.Views.{found-seat, no_seat}

module _ (s : Store) (seat clock : ℕ) where
  pub seat_unknown : first (λ t. eqb t.id seat) (connection_of s.control).seats ≡ none
      → decide_plain (view (session s)) clock (Plain.remove_seat seat) ≡ answer (Result.refused 12)
  unfolding decide_plain remove_seat on_found refuse
  seat_unknown e = rw (no_seat s seat e)

  pub seat_plan_lem : {k : ℕ} → first (λ t. eqb t.id seat) (connection_of s.control).seats ≡ some k
      → decide_plain (view (session s)) clock (Plain.remove_seat seat) ≡ retire_seat (view (session s)) seat
  unfolding decide_plain remove_seat on_found
  seat_plan_lem e = rw (found-seat s seat e)
