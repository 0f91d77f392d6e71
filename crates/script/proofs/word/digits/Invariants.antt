-- The loop's invariant: the digits so far have the number n. Assumes nothing.
use Prim.Native.Nat.{◌^◌, ◌<◌}
use mathlib.Core.Path.{◌≡◌}
use lib.ListN.{drop}
use Rattle.script.specs.Number.{digits, digits_from}
use Rattle.script.proofs.word.digits.Given as goal

abbrev pub invariant-loop-c : goal.invariant-loop-c
invariant-loop-c l = (l.n < 2 ^ 64) × (digits l.base l.word ≡ digits_from l.base l.n (drop l.c-index l.word))
