-- What is left to do from slot k on, done, is the whole. Assumes nothing.
use Prim.Native.Nat.{◌<◌}
use mathlib.Core.Path.{refl, sym, ◌∙◌}
use mathlib.Core.List.{[]}
use native.Mathlib.Omega.{arith}
use Rattle.model.specs.Call.{Load}
use Rattle.control.specs.Control.{device_count}
use Rattle.session.specs.Loan.{store_of}
use Rattle.removal.proofs.Loops.{device-fewer, dropping_none, dropping_hit, dropping_miss, dropping_end}
use Rattle.removal.proofs.remove_devices_of.Goals as goal

pub loop-k-init : goal.loop-k-init
loop-k-init c =
    let a = c.args in
    (omega arith, (record { control = refl; words = refl; reals = refl }, λ texts. dropping_none (store_of a.session.now texts) a.seat a.session.now.lent.sound))

pub loop-k-smaller-then-device_seat-seat : goal.loop-k-smaller-then-device_seat-seat
loop-k-smaller-then-device_seat-seat c =
    let o = c.loop-k in
    omega (arith, device-fewer (store_of o.session []) o.k (omega arith) (c.remove_device.ensures.step [] Load.None))

pub loop-k-preserved-then-device_seat-seat : goal.loop-k-preserved-then-device_seat-seat
loop-k-preserved-then-device_seat-seat c =
    let a = c.args in
    let o = c.loop-k in
    let went = c.remove_device.ensures in
    let l : o.k < device_count o.session.control.now = omega arith in (
      omega (arith, device-fewer (store_of o.session []) o.k l (went.step [] Load.None)),
      (
        record { control = went.loan.control ∙ o.invariant.1.0.control; words = went.loan.words ∙ o.invariant.1.0.words; reals = went.loan.reals ∙ o.invariant.1.0.reals },
        λ texts.
            dropping_hit (store_of o.session texts) o.k l (store_of a.session.now texts) a.seat (sym c.device_seat.ensures ∙ c.if-device_seat-seat.true)
            (went.step texts Load.None) (o.invariant.1.1 texts),
      ),
    )

pub loop-k-preserved : goal.loop-k-preserved
loop-k-preserved c =
    let a = c.args in
    let o = c.loop-k in
    let l : o.k < device_count o.session.control.now = omega arith in (
      omega arith,
      (
        record { control = o.invariant.1.0.control; words = o.invariant.1.0.words; reals = o.invariant.1.0.reals },
        λ texts.
            dropping_miss (store_of o.session texts) o.k l (store_of a.session.now texts) a.seat (λ z. c.if-device_seat-seat.false (c.device_seat.ensures ∙ z))
            (o.invariant.1.1 texts),
      ),
    )

pub returns-clause-step : goal.returns-clause-step
returns-clause-step c =
    let a = c.args in
    let o = c.loop-k in
    λ texts load. dropping_end (store_of a.session.now texts) a.seat (store_of o.session texts) o.k load (omega arith) (o.invariant.1.1 texts)
