-- What writing bytes does to a buffer. Assumes nothing.
use Rattle.std.specs.Prelude.{ℕ, ◌+◌, List, ◌≡◌, length}
use Rattle.wire.specs.Bits.{splice, fitted}

-- the bytes stand at the place whole and the answer is their length, or nothing is written and the answer is 0; every other byte is as it was
pub record PutWhole (out later : List ℕ) (at : ℕ) (bytes : List ℕ) (r : ℕ) : Type 0 where
  pub count : r ≡ length (fitted out at bytes)
  pub buffer : later ≡ splice out at (fitted out at bytes)

-- `size` bytes stand at the place, and the answer is the place behind them
pub record Wrote (out later : List ℕ) (at size : ℕ) (bytes : List ℕ) (r : ℕ) : Type 0 where
  pub buffer : later ≡ splice out at bytes
  pub long : length bytes ≡ size
  pub next : r ≡ at + size
