-- `utf8::lead_of` meets its contract: in each arm, what the rules say of every octet of the arm's range is computed. Assumes nothing.
use Prim.Native.Nat.{ℕ, ◌≤◌}
use mathlib.Core.Path.{◌≡◌, refl, sym}
use mathlib.Core.Option.{some}
use native.Mathlib.Omega.{arith}
use Rattle.utf8.specs.Rfc3629.{utf8_char, after}
use Rattle.utf8.specs.Lead.{asked}
use Rattle.utf8.specs.declared.Lead.{Lead}
use Rattle.utf8.specs.declared.Lead.TheVariants.{Alone, More, Bad}
use Rattle.utf8.proofs.Rules.{decides, decided}
use Rattle.utf8.proofs.lead_of.Goals as goal

from : (lo hi x : ℕ) (r : Lead) → decides lo hi utf8_char ≡ some (asked r) → lo ≤ x → x ≤ hi → asked r ≡ after utf8_char x
from lo hi x r e a b = sym (decided lo hi x a b (asked r) utf8_char e)

pub returns-then-first-lt128 : goal.returns-then-first-lt128
unfolding decides asked utf8_char
returns-then-first-lt128 c = from 0x00 0x7F c.args.first Alone refl (omega arith) (omega arith)

pub returns-in-224 : goal.returns-in-224
unfolding decides asked utf8_char
returns-in-224 c = from 0xE0 0xE0 c.args.first (More 0xA0 0xBF 1) refl (omega arith) (omega arith)

pub returns-in-237 : goal.returns-in-237
unfolding decides asked utf8_char
returns-in-237 c = from 0xED 0xED c.args.first (More 0x80 0x9F 1) refl (omega arith) (omega arith)

pub returns-in-240 : goal.returns-in-240
unfolding decides asked utf8_char
returns-in-240 c = from 0xF0 0xF0 c.args.first (More 0x90 0xBF 2) refl (omega arith) (omega arith)

pub returns-in-244 : goal.returns-in-244
unfolding decides asked utf8_char
returns-in-244 c = from 0xF4 0xF4 c.args.first (More 0x80 0x8F 2) refl (omega arith) (omega arith)

pub returns-in-194-to-223 : goal.returns-in-194-to-223
unfolding decides asked utf8_char
returns-in-194-to-223 c = from 0xC2 0xDF c.args.first (More 0x80 0xBF 0) refl (omega arith) (omega arith)

pub returns-in-225-to-236 : goal.returns-in-225-to-236
unfolding decides asked utf8_char
returns-in-225-to-236 c = from 0xE1 0xEC c.args.first (More 0x80 0xBF 1) refl (omega arith) (omega arith)

pub returns-in-238-to-239 : goal.returns-in-238-to-239
unfolding decides asked utf8_char
returns-in-238-to-239 c = from 0xEE 0xEF c.args.first (More 0x80 0xBF 1) refl (omega arith) (omega arith)

pub returns-in-241-to-243 : goal.returns-in-241-to-243
unfolding decides asked utf8_char
returns-in-241-to-243 c = from 0xF1 0xF3 c.args.first (More 0x80 0xBF 2) refl (omega arith) (omega arith)

pub returns-in_default : goal.returns-in_default
unfolding decides asked utf8_char
returns-in_default c = from 0x80 0xC1 c.args.first Bad refl (omega arith) (omega arith)

pub returns-in_default-2 : goal.returns-in_default-2
unfolding decides asked utf8_char
returns-in_default-2 c = from 0xF5 0xFF c.args.first Bad refl (omega arith) (omega arith)
