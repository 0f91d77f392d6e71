-- One record after another, up to the first that is refused, all on the session that is lent on. Assumes nothing.
use Rattle.std.proofs.Common.{◌≡◌, sym, ◌∙◌, map, length, arith}
use Rattle.std.proofs.lemmas.List.{length-map, get_or_default}
use Rattle.session.specs.View.{store}
use Rattle.session.specs.Loan.{store_of}
use Rattle.session.proofs.Views.{whole_parts, lent-part}
use Rattle.reads.specs.Record.{entry_of}
use Rattle.reads.proofs.Laws.{goes, lendable, ready, again, finished, ended_early, handed-back}
use Rattle.reads.proofs.handle_requests.Goals as goal

pub invariant_of-session : goal.invariant_of-session
invariant_of-session c =
    let a = c.args in
    let n = c.begin-sofar.new in
    let e = store n.control n.words n.reals n.texts in
    record {
      lent = lent-part e
          (lendable (store a.control.now a.words.now a.reals.now a.texts.now) a.out.now (map (entry_of a.lent.now) a.records.now) a.clock
          e c.begin-sofar.result c.begin-sofar.ensures (sym c.is_some.ensures ∙ c.if-is_some.false));
    }

pub record_on-sofar-requires : goal.record_on-sofar-requires
record_on-sofar-requires c =
    let a = c.args in
    let i = c.loop-one in
    let long : length (map (entry_of a.lent.now) a.records.now) ≡ length a.records.now = length-map a.records.now (entry_of a.lent.now) in
    let q = ready (store a.control.now a.words.now a.reals.now a.texts.now) a.out.now (map (entry_of a.lent.now) a.records.now) a.clock
    (store_of i.session i.texts) i.out i.sofar i.invariant.so_far i.invariant.goes_on (omega (arith, i.invariant.reached, long)) (omega (arith, long)) in
    (whole_parts (store_of i.session i.texts) q.0, q.1)

pub returns-then-is_some-2 : goal.returns-then-is_some-2
returns-then-is_some-2 c =
    let a = c.args in
    let i = c.loop-one in
    let n = c.record_on-sofar.new in
    let next = again (store a.control.now a.words.now a.reals.now a.texts.now) a.out.now a.records.now a.lent.now a.clock
    (store_of i.session i.texts) (store_of n.session n.texts) i.out n.out i.sofar c.record_on-sofar.result _ i.one-index
    i.invariant.so_far i.invariant.goes_on i.invariant.reached c.loop-one-test.true (get_or_default a.records.now i.one-index _ _ c.loop-one-test.true)
    c.record_on-sofar.ensures.step in
    handed-back n.session (grind arith) (grind arith) (grind arith)
    (ended_early _ _ _ _ _ _ _ next.0 (sym c.is_some-in-loop-one.ensures ∙ c.if-is_some-2.true))

pub loop-one-preserved : goal.loop-one-preserved
loop-one-preserved c =
    let a = c.args in
    let i = c.loop-one in
    let n = c.record_on-sofar.new in
    let next = again (store a.control.now a.words.now a.reals.now a.texts.now) a.out.now a.records.now a.lent.now a.clock
    (store_of i.session i.texts) (store_of n.session n.texts) i.out n.out i.sofar c.record_on-sofar.result _ i.one-index
    i.invariant.so_far i.invariant.goes_on i.invariant.reached c.loop-one-test.true (get_or_default a.records.now i.one-index _ _ c.loop-one-test.true)
    c.record_on-sofar.ensures.step in
    let none = goes c.record_on-sofar.result (sym c.is_some-in-loop-one.ensures ∙ c.if-is_some-2.false) in
    let went = c.record_on-sofar.ensures.loan in
    record {
      so_far = next.0;
      goes_on = none;
      reached = next.1 none;
      loan = record { control = went.control ∙ i.invariant.loan.control; words = went.words ∙ i.invariant.loan.words; reals = went.reals ∙ i.invariant.loan.reals };
    }

pub returns : goal.returns
returns c =
    let a = c.args in
    let i = c.loop-one in
    let long : length (map (entry_of a.lent.now) a.records.now) ≡ length a.records.now = length-map a.records.now (entry_of a.lent.now) in
    handed-back i.session (grind arith) (grind arith) (grind arith)
    (finished _ _ _ _ _ _ _ i.invariant.so_far (λ _. omega (arith, i.invariant.reached, long)))
