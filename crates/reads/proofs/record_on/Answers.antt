-- The part decides whether the record is tried; the call's answer is joined to those before it. Assumes nothing.
use mathlib.Core.Path.{refl, sym, ap, ◌∙◌}
use Prim.Native.Nat.{◌<◌, ◌^◌}
use native.Mathlib.Nat.{lt_of_le_of_lt}
use lib.ListN.{length}
use native.Mathlib.Omega.{arith}
use Rattle.session.specs.View.{is_intact}
use Rattle.session.specs.Slices.{given}
use Rattle.session.specs.Loan.{store_of}
use Rattle.session.proofs.Views.{whole_is}
use Rattle.answers.proofs.Meetings.{intact_answered}
use Rattle.reads.proofs.Records.{bad-taken, call_fits, call-taken}
use Rattle.reads.proofs.record_on.Goals as goal

-- 22
pub returns-in_default-clause-step : goal.returns-in_default-clause-step
returns-in_default-clause-step c =
    let a = c.args in
    bad-taken (store_of a.session.now a.texts.now) a.out.now a.lent.now a.one a.clock a.sofar _ _
    (sym c.part_of.ensures ∙ ap given c.in_default.is) refl c.join.ensures

-- what is written fits behind what was
pub join-requires-2 : goal.join-requires-2
unfolding is_intact
join-requires-2 c =
    let a = c.args in
    let n = c.handle_on-answer.new in
    let whole = whole_is (store_of a.session.now a.texts.now) c.requires.0 in
    let room : length a.out.now < 2 ^ 64 = omega arith in (
      c.requires.1.1,
      lt_of_le_of_lt (call_fits (store_of a.session.now a.texts.now) (store_of n.session n.texts) a.out.now
          n.out a.lent.now a.one a.clock a.sofar c.handle_on-answer.result c.in-Some.text.now
          whole c.requires.1.0 c.handle_on-answer.auto.out (intact_answered whole (λ w. c.handle_on-answer.ensures.step))) room,
    )

pub returns-clause-step : goal.returns-clause-step
unfolding is_intact
returns-clause-step c =
    let a = c.args in
    let n = c.handle_on-answer.new in
    let whole = whole_is (store_of a.session.now a.texts.now) c.requires.0 in
    call-taken (store_of a.session.now a.texts.now) (store_of n.session n.texts) a.out.now n.out
    a.lent.now a.one a.clock a.sofar c.handle_on-answer.result c.in-Some.text.now whole c.requires.1.0 c.handle_on-answer.auto.out
    (intact_answered whole (λ w. c.handle_on-answer.ensures.step))
    _ (sym c.part_of.ensures ∙ ap given c.in-Some.is) c.join-2.ensures
