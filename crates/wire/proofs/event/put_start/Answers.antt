-- `wire::event::put_start` meets its contract: five numbers, each written behind the one before. Assumes nothing.
use Prim.Native.Nat.{◌+◌}
use mathlib.Core.Path.{◌≡◌, ap}
use native.Mathlib.Omega.{arith}
use Rattle.wire.specs.Fields.{size}
use Rattle.wire.specs.declared.event.Number.{Number}
use Rattle.wire.proofs.Splices.{wrote_join}
use Rattle.wire.proofs.event.put_start.Goals as goal

pub returns : goal.returns
returns c =
    let f = c.args.f in
    let fits = c.requires.1.1 in
    let p = c.put-id in
    let q = c.put-first in
    let r = c.put-second in
    let s = c.put-third in
    let b : c.into.result.bytes ≡ 8 = ap (λ (n : Number). n.bytes) c.into.ensures in
    let e : 2 + (8 + size f) ≡ 10 + size f = omega arith in
    rw e at
    (wrote_join (p.ensures)
    (wrote_join (rw c.into.ensures at q.ensures)
    (wrote_join r.ensures
    (wrote_join s.ensures c.put.ensures
    (omega arith))
    (omega arith))
    (omega arith))
    (omega arith))
