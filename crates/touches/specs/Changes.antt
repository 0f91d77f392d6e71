-- What each change makes of a record, by value or where it is: d is the record before, and e the record after it.
use Rattle.std.specs.Prelude.{ℕ, ◌≤◌, ◌≡◌, Bool, true, false, List, [], ◌∷◌, ◌++◌, length, Result}
use Rattle.touches.specs.declared.DownTouchIds.{DownTouchIds}
use Rattle.touches.specs.declared.DownError.{DownError}
use Rattle.touches.specs.Touches.{touches_limit, held, member, without, refusal, down_refusal}

-- a record made or changed: these ids are held, and counted, sixteen at most. What the places behind them hold is left free
pub record Holds (ids : List ℕ) (e : DownTouchIds) : Type 0 where
  pub ids_are : held e ≡ ids
  pub counted : e.count ≡ length ids
  pub within : e.count ≤ touches_limit

-- a Down that is not refused puts the id last. "A refusal returns the session unchanged": e is d, to the last bit
pub record Inserts (id : ℕ) (d e : DownTouchIds) (answer : Result (Unit {0}) DownError) : Type 0 where
  pub answers : refusal answer ≡ down_refusal id (held d)
  pub inserted : down_refusal id (held d) ≡ 0 → Holds (held d ++ (id ∷ [])) e
  pub refused : (down_refusal id (held d) ≡ 0 → ⊥) → e ≡ d

-- an Up or a Cancel takes the id out, and the others keep their order. "Touch Motion, Up and Cancel for an id not held: accepted, nothing": e is d, to the last bit
pub record Removes (id : ℕ) (d e : DownTouchIds) (answer : Bool) : Type 0 where
  pub answers : answer ≡ member id (held d)
  pub removed : member id (held d) ≡ true → Holds (without id (held d)) e
  pub unheld : member id (held d) ≡ false → e ≡ d
