-- The tests of the model, in its order, on the seat that was found. Assumes nothing.
use Rattle.answers.proofs.Meetings.{ends}
use mathlib.Core.Path.{sym, ap, ◌∙◌, refl}
use native.Mathlib.Omega.{arith}
use Prim.Native.Nat.{ℕ}
use borrow.Author.Tests.{not-true, not-false}
use lib.Dec.{eqb}
use Rattle.eiproto.specs.Bits.{contains}
use Rattle.model.specs.Session.{view}
use Rattle.eiproto.specs.Told.{told}
use Rattle.control.proofs.Models.{seat-passes}
use Rattle.session.specs.View.{store, session}
use Rattle.client_requests.proofs.Handling.{handled-answer, seat-none, seat_strange, seat_lacks, seat-has}
use Rattle.std.proofs.lemmas.Bool.{not_from_false, not_from_true}
use Rattle.client_requests.proofs.untimed.queue_for_seat.Goals as goal

pub returns-then-has_unknown-clause-step : goal.returns-then-has_unknown-clause-step
returns-then-has_unknown-clause-step c =
    let a = c.args in
    let f = sym c.find_seat.ensures ∙ ap told c.in-Some.is in
    λ call clock x out texts w.
    let s = store a.session.now.control.now a.session.now.words.now a.session.now.reals.now texts in
    handled-answer s out call clock _ w (x.plan (view (session s)) ∙ seat_strange s a.seat a.capabilities x.untimed f (sym c.has_unknown.ensures ∙ c.if-has_unknown.true)) (refl, refl)

pub seat_capabilities-requires : goal.seat_capabilities-requires
seat_capabilities-requires c =
    let a = c.args in
    let f = sym c.find_seat.ensures ∙ ap told c.in-Some.is in
    (c.args.session.now.lent.sound.long, omega (arith, c.args.session.now.lent.sound.seats, (seat-passes a.session.now.control.now (λ t. eqb t.id a.seat) _ f).within))

pub returns-then-not-contains-clause-step : goal.returns-then-not-contains-clause-step
returns-then-not-contains-clause-step c =
    let a = c.args in
    let f = sym c.find_seat.ensures ∙ ap told c.in-Some.is in
    λ call clock x out texts w.
    let s = store a.session.now.control.now a.session.now.words.now a.session.now.reals.now texts in
    handled-answer s out call clock _ w
    (x.plan (view (session s)) ∙ seat_lacks s a.seat a.capabilities x.untimed f (sym c.has_unknown.ensures ∙ c.if-has_unknown.false)
    (ap (λ (m : ℕ). contains m a.capabilities) (sym c.seat_capabilities.ensures) ∙ sym c.contains.ensures ∙ not-true _ (not_from_false _ c.if-not-contains.true)))
    (refl, refl)

pub returns-clause-step : goal.returns-clause-step
returns-clause-step c =
    let a = c.args in
    let f = sym c.find_seat.ensures ∙ ap told c.in-Some.is in
    λ call clock x out texts w.
    let s = store a.session.now.control.now a.session.now.words.now a.session.now.reals.now texts in
    c.queue_untimed.ensures.step call clock texts out
    (record {
      untimed = x.untimed;
      is = x.is;
      plan = x.plan (view (session s)) ∙ seat-has s a.seat a.capabilities x.untimed f (sym c.has_unknown.ensures ∙ c.if-has_unknown.false)
          (ap (λ (m : ℕ). contains m a.capabilities) (sym c.seat_capabilities.ensures) ∙ sym c.contains.ensures ∙ not-false _ (not_from_true _ c.if-not-contains.false));
    })
    w

pub returns-in_default-clause-step : goal.returns-in_default-clause-step
returns-in_default-clause-step c =
    let a = c.args in
    λ call clock x out texts w.
    let s = store a.session.now.control.now a.session.now.words.now a.session.now.reals.now texts in
    handled-answer s out call clock _ w
    (x.plan (view (session s)) ∙ seat-none s a.seat a.capabilities x.untimed (sym c.find_seat.ensures ∙ ap told c.in_default.is))
    (ends c.accepted.ensures)
