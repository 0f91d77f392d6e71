-- Past the arms there is no meaning. Assumes nothing.
use mathlib.Core.Path.{sym}
use lib.ListN.{get_or-eq_default}
use Rattle.requests.specs.declared.eis.Request.{Request}
use Rattle.lent_read.specs.Numbers.{meanings, request_of}
use Prim.Native.Nat.{◌≤◌}
use native.Mathlib.Omega.{arith}
use Rattle.lent_read.proofs.record.request_of.Goals as goal

pub returns-in_default : goal.returns-in_default
unfolding request_of
returns-in_default c = let d = c.args.c in sym (get_or-eq_default (meanings d) Request.PingpongDone (let h : 36 ≤ d.request = omega arith in h))
