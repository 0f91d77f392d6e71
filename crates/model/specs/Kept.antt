-- What becomes of the taken requests that are not given (yet). Assumes nothing.
use Rattle.std.specs.Prelude.{ℕ, ◌<◌, ◌≡◌, cond, List, [], ◌∷◌, ◌++◌, map, eqb}
use Rattle.std.proofs.Math.Option.{Option}
use Rattle.model.specs.Call.{Load, Turn, split}
use Rattle.model.specs.Session.{Item, Device, fresh}
use Rattle.model.specs.Demand3.{taken, given, items_of, trail}
use Rattle.model.specs.Reachable.{count_of, device_ids, session_after}

-- the requests that wait on a device
unfoldable pub pending_of : {P : Type 0} → (device : ℕ) → List (Device P) → List (Item P)
pending_of d [] = []
pending_of d (x ∷ xs) = cond (eqb x.id d) x.pending [] ++ pending_of d xs

-- While a device stands, nothing that was taken on it is lost: it was given, or is queued, or is pending, in this order. ("`Device::remove` drops
-- pending requests; queued ones stay.")
unfoldable pub NothingLost : Type 0
unfolding taken given items_of pending_of trail session_after fresh device_ids count_of
NothingLost =
    (c s n : ℕ) (vs : List (Option ℕ)) (ts : List Turn) (d : ℕ) →
    let after = session_after (map split ts) (fresh {P = Load} c s n vs) in
    0 < count_of d (device_ids after) →
    taken c s n vs d ts ≡ given d (trail c s n vs ts) ++ (items_of d after.requests ++ pending_of d after.devices)
