-- What is left to do with the seats that stand, done, is the whole. Assumes nothing.
use Prim.Native.Nat.{◌<◌}
use mathlib.Core.Path.{refl, ◌∙◌}
use mathlib.Core.List.{[]}
use native.Mathlib.Omega.{arith}
use Rattle.model.specs.Call.{Load}
use Rattle.control.specs.Control.{seat_count}
use Rattle.session.specs.Loan.{store_of}
use Rattle.removal.proofs.Loops.{seat-fewer, emptying_none, emptying_step, emptying_end}
use Rattle.removal.proofs.remove_seats.Goals as goal

pub loop-session-init : goal.loop-session-init
loop-session-init c =
    let a = c.args in
    (record { control = refl; words = refl; reals = refl }, λ texts load. emptying_none (store_of a.session.now texts) load a.session.now.lent.sound)

pub invariant_of-session-in-loop-session : goal.invariant_of-session-in-loop-session
invariant_of-session-in-loop-session c =
    let m = c.remove_devices_of.new.session in
    record { lent = record { sound = (c.remove_seat.ensures m.words.now m.reals.now [] Load.None).sound; words_long = m.lent.words_long; reals_long = m.lent.reals_long } }

pub loop-session-smaller : goal.loop-session-smaller
loop-session-smaller c =
    let o = c.loop-session in
    let l : 0 < seat_count o.session.control.now = omega arith in
    let m = store_of c.remove_devices_of.new.session [] in
    omega
    (arith, seat-fewer {m = m} l (c.remove_devices_of.ensures.step [] Load.None) (c.remove_seat.ensures m.words m.reals [] Load.None) (omega arith) c.seat_id-seat.ensures)

pub loop-session-preserved : goal.loop-session-preserved
loop-session-preserved c =
    let o = c.loop-session in
    let l : 0 < seat_count o.session.control.now = omega arith in (
      let went = c.remove_devices_of.ensures in record { control = went.loan.control ∙ o.invariant.0.control; words = went.loan.words ∙ o.invariant.0.words; reals = went.loan.reals ∙ o.invariant.0.reals },
      λ texts load.
          let m = store_of c.remove_devices_of.new.session texts in
          emptying_step {m = m} l (c.remove_devices_of.ensures.step texts load) (c.remove_seat.ensures m.words m.reals texts load) (omega arith) c.seat_id-seat.ensures
          (o.invariant.1 texts load),
    )

pub returns-clause-step : goal.returns-clause-step
returns-clause-step c =
    let a = c.args in
    let o = c.loop-session in
    λ texts load. emptying_end (store_of a.session.now texts) load (store_of o.session texts) (omega arith) (o.invariant.1 texts load)
