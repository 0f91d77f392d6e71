-- The read so far, record by record, as `reads` has it. Assumes nothing.
use Rattle.std.proofs.Common.{◌<◌, sym, ◌∙◌, map, arith}
use Rattle.session.specs.View.{store}
use Rattle.session.specs.Loan.{store_of}
use Rattle.session.proofs.Views.{whole_parts, lent-part}
use Rattle.reads.specs.Record.{entry_of}
use Rattle.reads.proofs.Laws.{goes, lendable, ready, again, finished, ended_early, handed-back}
use Rattle.lent_read.specs.Numbers.{record_count, records_in}
use Rattle.lent_read.proofs.Records.{long, entries-long, here}
use Rattle.lent_read.proofs.handle_requests.Goals as goal

pub invariant_of-session : goal.invariant_of-session
invariant_of-session c =
    let a = c.args in
    let n = c.begin-sofar.new in
    let e = store n.control n.words n.reals n.texts in
    record {
      lent = lent-part e
          (lendable (store a.control.now a.words.now a.reals.now a.texts.now) a.out.now (map (entry_of a.lent.now) (records_in a.records.now a.points.now)) a.clock
          e c.begin-sofar.result c.begin-sofar.ensures (sym c.is_some.ensures ∙ c.if-is_some.false));
    }

pub record_on-sofar-requires : goal.record_on-sofar-requires
record_on-sofar-requires c =
    let a = c.args in
    let i = c.loop-i in
    let es = map (entry_of a.lent.now) (records_in a.records.now a.points.now) in
    let count = entries-long a.records.now a.points.now a.lent.now in
    let q = ready (store a.control.now a.words.now a.reals.now a.texts.now) a.out.now es a.clock
    (store_of i.session i.texts) i.out i.sofar i.invariant.so_far i.invariant.goes_on
    (omega (arith, i.invariant.reached, count, c.record_count-i-end.ensures, c.loop-i-test.true)) (omega (arith, count, c.record_count-i-end.ensures)) in
    (whole_parts (store_of i.session i.texts) q.0, q.1)

pub returns-then-is_some-2 : goal.returns-then-is_some-2
returns-then-is_some-2 c =
    let a = c.args in
    let i = c.loop-i in
    let n = c.record_on-sofar.new in
    let there : i.i < record_count a.records.now a.points.now = omega (arith, c.record_count-i-end.ensures, c.loop-i-test.true) in
    let next = again (store a.control.now a.words.now a.reals.now a.texts.now) a.out.now (records_in a.records.now a.points.now) a.lent.now a.clock
    (store_of i.session i.texts) (store_of n.session n.texts) i.out n.out i.sofar c.record_on-sofar.result c.record_at-one.result i.i
    i.invariant.so_far i.invariant.goes_on i.invariant.reached (omega (arith, there, long a.records.now a.points.now))
    (here a.records.now a.points.now i.i _ there c.record_at-one.ensures) c.record_on-sofar.ensures.step in
    handed-back n.session (grind arith) (grind arith) (grind arith)
    (ended_early _ _ _ _ _ _ _ next.0 (sym c.is_some-in-loop-i.ensures ∙ c.if-is_some-2.true))

pub loop-i-preserved : goal.loop-i-preserved
loop-i-preserved c =
    let a = c.args in
    let i = c.loop-i in
    let n = c.record_on-sofar.new in
    let there : i.i < record_count a.records.now a.points.now = omega (arith, c.record_count-i-end.ensures, c.loop-i-test.true) in
    let next = again (store a.control.now a.words.now a.reals.now a.texts.now) a.out.now (records_in a.records.now a.points.now) a.lent.now a.clock
    (store_of i.session i.texts) (store_of n.session n.texts) i.out n.out i.sofar c.record_on-sofar.result c.record_at-one.result i.i
    i.invariant.so_far i.invariant.goes_on i.invariant.reached (omega (arith, there, long a.records.now a.points.now))
    (here a.records.now a.points.now i.i _ there c.record_at-one.ensures) c.record_on-sofar.ensures.step in
    let none = goes c.record_on-sofar.result (sym c.is_some-in-loop-i.ensures ∙ c.if-is_some-2.false) in
    let went = c.record_on-sofar.ensures.loan in
    record {
      so_far = next.0;
      goes_on = none;
      reached = next.1 none;
      loan = record { control = went.control ∙ i.invariant.loan.control; words = went.words ∙ i.invariant.loan.words; reals = went.reals ∙ i.invariant.loan.reals };
    }

pub returns : goal.returns
returns c =
    let a = c.args in
    let i = c.loop-i in
    handed-back i.session (grind arith) (grind arith) (grind arith)
    (finished _ _ _ _ _ _ _ i.invariant.so_far
    (λ _. omega (arith, i.invariant.reached, entries-long a.records.now a.points.now a.lent.now, c.record_count-i-end.ensures)))
