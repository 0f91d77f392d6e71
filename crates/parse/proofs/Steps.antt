-- Room in a message, by a test that was made. Assumes nothing.
use Prim.Native.Nat.{ℕ, ◌+◌, ◌≤◌}
use mathlib.Core.Path.{◌≡◌, sym, ◌∙◌}
use mathlib.Core.Bool.{Bool, true, false, not}
use mathlib.Core.List.{List}
use borrow.Author.Tests.{leb-true, not-true, not-false}
use lib.Dec.{leb}
use lib.ListN.{length}
use Rattle.std.specs.Prelude.{Err}
use Rattle.wire.specs.declared.ParseError.{ParseError}
use Rattle.parse.specs.Parse.{Walk, needing}

-- the test said whether there is room
module _ (m : List ℕ) (at count : ℕ) {r : Bool} (e : r ≡ leb (at + count) (length m)) where
  pub short : (w : Walk) → not r ≡ true → Err ParseError.EndOfMessage ≡ needing m at count w
  unfolding needing
  short w h = rw (sym e ∙ not-true r h)

  pub enough : {v w : Walk} → not r ≡ false → v ≡ w → v ≡ needing m at count w
  unfolding needing
  enough h q = rw (sym e ∙ not-false r h) q

  pub room : not r ≡ false → at + count ≤ length m
  room h = leb-true _ _ (sym e ∙ not-false r h)
