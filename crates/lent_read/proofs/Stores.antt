-- A record's stores. Assumes nothing.
use Prim.Native.Nat.{ℕ, ◌+◌, ◌*◌}
use mathlib.Core.Path.{refl}
use mathlib.Core.List.{List, [], ◌∷◌}
use native.Mathlib.Omega.{arith}
use lib.Ieee.{Float, nan}
use Rattle.requests.specs.Row.{Put, PutRow}
use Rattle.requests.proofs.Stores.{at, elsewhere}
use Rattle.lent_read.specs.declared.record.RequestCell.{RequestCell}
use Rattle.lent_read.specs.Numbers.{record_words, record_reals, cell_at}

pub written : (records records' : List ℕ) (points points' : List Float) (i : ℕ) (c : RequestCell)
    → PutRow record_words i (c.request ∷ c.object ∷ c.version ∷ c.first ∷ c.second ∷ c.third ∷ c.start ∷ c.length ∷ []) records records'
    → PutRow record_reals i (c.x ∷ c.y ∷ []) points points'
    → Put (cell_at records points) (cell_at records' points') i c
unfolding cell_at
written records records' points points' i c w r =
    record {
      here = λ t. record {
        request = at w 0 (i * record_words) 0 (omega arith) (omega arith) t;
        object = at w 1 (i * record_words + 1) 0 (omega arith) refl t;
        version = at w 2 (i * record_words + 2) 0 (omega arith) refl t;
        first = at w 3 (i * record_words + 3) 0 (omega arith) refl t;
        second = at w 4 (i * record_words + 4) 0 (omega arith) refl t;
        third = at w 5 (i * record_words + 5) 0 (omega arith) refl t;
        start = at w 6 (i * record_words + 6) 0 (omega arith) refl t;
        length = at w 7 (i * record_words + 7) 0 (omega arith) refl t;
        x = at r 0 (i * record_reals) nan (omega arith) (omega arith) t;
        y = at r 1 (i * record_reals + 1) nan (omega arith) refl t;
      };
      other = λ m n t. record {
        request = elsewhere w m (m * record_words) 0 n (omega arith) (omega arith) t;
        object = elsewhere w m (m * record_words + 1) 0 n (omega arith) (omega arith) t;
        version = elsewhere w m (m * record_words + 2) 0 n (omega arith) (omega arith) t;
        first = elsewhere w m (m * record_words + 3) 0 n (omega arith) (omega arith) t;
        second = elsewhere w m (m * record_words + 4) 0 n (omega arith) (omega arith) t;
        third = elsewhere w m (m * record_words + 5) 0 n (omega arith) (omega arith) t;
        start = elsewhere w m (m * record_words + 6) 0 n (omega arith) (omega arith) t;
        length = elsewhere w m (m * record_words + 7) 0 n (omega arith) (omega arith) t;
        x = elsewhere r m (m * record_reals) nan n (omega arith) (omega arith) t;
        y = elsewhere r m (m * record_reals + 1) nan n (omega arith) (omega arith) t;
      };
    }
