-- Nothing is asked but a known interface and a pending list with room. Assumes nothing.
use Rattle.answers.proofs.Meetings.{ends}
use Prim.Native.Nat.{◌<◌}
use mathlib.Core.Path.{◌≡◌, refl, sym, ap, ◌∙◌}
use mathlib.Core.Option.{some}
use native.Mathlib.Omega.{arith}
use Rattle.eiproto.specs.Told.{told}
use Rattle.control.specs.Control.{device_count, core_at}
use Rattle.session.specs.View.{store}
use Rattle.client_requests.specs.declared.timed.TouchChange.{TouchChange}
use Rattle.client_requests.proofs.Decisions.{interface_slot, interface-within, queue_full, queue-room, plain_unknown, plain-queued}
use Rattle.client_requests.proofs.Enactings.{met_ignored, met_refused, met_queued}
use Rattle.client_requests.proofs.timed.queue_for_interface.Goals as goal

pub pending_count-requires : goal.pending_count-requires
pending_count-requires c =
    let known_at : let a = c.args in interface_slot a.capability a.interface a.session.now.control.now ≡ some c.in-Some.k = sym c.device_for_interface.ensures ∙ ap told c.in-Some.is in
    let within_at : c.in-Some.k < device_count c.args.session.now.control.now = let a = c.args in interface-within a.capability a.interface a.session.now.control.now (known_at) in
    let sound = c.args.session.now.lent.sound in
    (sound.long, omega (arith, sound.devices, within_at))

pub returns-then-pending_count-ge-PENDING_LIMIT-clause-step : goal.returns-then-pending_count-ge-PENDING_LIMIT-clause-step
returns-then-pending_count-ge-PENDING_LIMIT-clause-step c =
    let known_at : let a = c.args in interface_slot a.capability a.interface a.session.now.control.now ≡ some c.in-Some.k = sym c.device_for_interface.ensures ∙ ap told c.in-Some.is in
    let a = c.args in
    λ version clock input only waits out texts whole.
    met_refused (store a.session.now.control.now a.session.now.words.now a.session.now.reals.now texts) out a.interface version clock input a.request _ whole
    (plain-queued a.session.now.control.now a.interface version only a.request (known_at) refl)
    (sym (queue_full a.session.now.control.now _ TouchChange.Nothing a.request (omega (arith, c.pending_count.ensures)))) (refl, refl)

pub pend-requires : goal.pend-requires
unfolding core_at
pend-requires c =
    let known_at : let a = c.args in interface_slot a.capability a.interface a.session.now.control.now ≡ some c.in-Some.k = sym c.device_for_interface.ensures ∙ ap told c.in-Some.is in
    let within_at : c.in-Some.k < device_count c.args.session.now.control.now = let a = c.args in interface-within a.capability a.interface a.session.now.control.now (known_at) in
    (within_at, omega (arith, c.pending_count.ensures))

pub returns-clause-step : goal.returns-clause-step
returns-clause-step c =
    let known_at : let a = c.args in interface_slot a.capability a.interface a.session.now.control.now ≡ some c.in-Some.k = sym c.device_for_interface.ensures ∙ ap told c.in-Some.is in
    let a = c.args in
    λ version clock input only waits out texts whole.
    met_queued (store a.session.now.control.now a.session.now.words.now a.session.now.reals.now texts) out a.interface version clock input a.request _ whole
    (plain-queued a.session.now.control.now a.interface version only a.request (known_at) refl) (store c.pend.new.session.control.now c.pend.new.session.words.now c.pend.new.session.reals.now texts)
    (sym (queue-room a.session.now.control.now _ TouchChange.Nothing a.request (omega (arith, c.pending_count.ensures)))) (c.pend.new.session.lent.words_long ∙ sym c.args.session.now.lent.words_long) (c.pend.new.session.lent.reals_long ∙ sym c.args.session.now.lent.reals_long) refl
    (c.pend.ensures.step texts _ _ (waits texts)) (ends c.accepted-2.ensures)

pub returns-in_default-clause-step : goal.returns-in_default-clause-step
returns-in_default-clause-step c =
    let a = c.args in
    λ version clock input only waits out texts whole.
    met_ignored (store a.session.now.control.now a.session.now.words.now a.session.now.reals.now texts) out a.interface version clock input a.request _ whole
    (plain_unknown a.session.now.control.now a.interface version only a.request (sym c.device_for_interface.ensures ∙ ap told c.in_default.is))
    refl (ends c.accepted.ensures)
