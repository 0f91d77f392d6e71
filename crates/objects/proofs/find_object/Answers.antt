-- What the finds say decides, one after another. Assumes nothing.
use Rattle.std.proofs.Common.{◌≡◌, ℕ, sym, ap, ◌∙◌}
use mathlib.Core.Option.{none, some}
use borrow.Author.Tests.{not-true}
use Rattle.std.proofs.lemmas.Bool.{not_from_false}
use Rattle.eiproto.specs.Interface.{ei_seat, ei_device}
use Rattle.eiproto.specs.Told.{told}
use Rattle.model.specs.Session.{view}
use Rattle.model.specs.Decide.{version}
use Rattle.model.specs.Live.{listed_in, object_of, interface_object}
use Rattle.control.specs.Control.{connection_of}
use Rattle.session.specs.View.{store, session}
use Rattle.session.proofs.Views.{view-connection}
use Rattle.objects.specs.Answer.{object_told}
use Rattle.objects.proofs.Lives.{Passed, gone-passed, other-passed, live-connection, live-seat, live-device, live-listed, seat_seen, device_seen}
use Rattle.objects.proofs.find_object.Goals as goal
use Rattle.objects.proofs.find_object.Goals.{else-connection_id-id-via-then-connection_id-id+else-not-connection_gone, else-connection_id-id-via-else-connection_id-id}

-- the connection
pub returns-then-not-connection_gone : goal.returns-then-not-connection_gone
returns-then-not-connection_gone c w q t =
    let a = c.args in
    let s = store a.control.now w q t in
    sym (live-connection (view (session s)) a.id (connection_of a.control.now) (view-connection s)
    (sym c.connection_id.ensures ∙ c.if-connection_id-id.true) (sym c.connection_gone.ensures ∙ not-true _ (not_from_false _ c.if-not-connection_gone.true)))

-- a seat
pub returns-then-is_some : goal.returns-then-is_some
returns-then-is_some c w q t =
    let a = c.args in
    let passed : Passed (connection_of a.control.now) a.id = elim c.else-connection_id-id.branch [
      | else-connection_id-id-via-then-connection_id-id+else-not-connection_gone x ↦ gone-passed (connection_of a.control.now) a.id (sym x.connection_gone.ensures ∙ x.if-not-connection_gone.false)
      | else-connection_id-id-via-else-connection_id-id x ↦ other-passed (connection_of a.control.now) a.id (λ e. x.if-connection_id-id.false (c.connection_id.ensures ∙ e))
    ] in
    let s = store a.control.now w q t in
    let n = connection_of a.control.now in
    let seat = seat_seen s a.id c.find_seat.result c.find_seat.ensures ∙ sym c.is_some.ensures ∙ c.if-is_some.true in
    ap (λ (v : ℕ). some (record { interface = ei_seat; version = v })) c.seat_version.ensures
    ∙ sym (live-seat (view (session s)) a.id n (view-connection s) passed seat)

-- a device
pub returns-then-is_some-2 : goal.returns-then-is_some-2
returns-then-is_some-2 c w q t =
    let a = c.args in
    let passed : Passed (connection_of a.control.now) a.id = elim c.else-connection_id-id.branch [
      | else-connection_id-id-via-then-connection_id-id+else-not-connection_gone x ↦ gone-passed (connection_of a.control.now) a.id (sym x.connection_gone.ensures ∙ x.if-not-connection_gone.false)
      | else-connection_id-id-via-else-connection_id-id x ↦ other-passed (connection_of a.control.now) a.id (λ e. x.if-connection_id-id.false (c.connection_id.ensures ∙ e))
    ] in
    let s = store a.control.now w q t in
    let n = connection_of a.control.now in
    let seat = seat_seen s a.id c.find_seat.result c.find_seat.ensures ∙ sym c.is_some.ensures ∙ c.if-is_some.false in
    let device = device_seen s a.id c.find_device.result c.find_device.ensures ∙ sym c.is_some-2.ensures ∙ c.if-is_some-2.true in
    ap (λ (v : ℕ). some (record { interface = ei_device; version = v })) c.device_version.ensures
    ∙ sym (live-device (view (session s)) a.id n (view-connection s) passed seat device)

-- nothing
pub returns-in_err-bit : goal.returns-in_err-bit
unfolding interface_object
returns-in_err-bit c w q t =
    let a = c.args in
    let passed : Passed (connection_of a.control.now) a.id = elim c.else-connection_id-id.branch [
      | else-connection_id-id-via-then-connection_id-id+else-not-connection_gone x ↦ gone-passed (connection_of a.control.now) a.id (sym x.connection_gone.ensures ∙ x.if-not-connection_gone.false)
      | else-connection_id-id-via-else-connection_id-id x ↦ other-passed (connection_of a.control.now) a.id (λ e. x.if-connection_id-id.false (c.connection_id.ensures ∙ e))
    ] in
    let s = store a.control.now w q t in
    let n = connection_of a.control.now in
    let seat = seat_seen s a.id c.find_seat.result c.find_seat.ensures ∙ sym c.is_some.ensures ∙ c.if-is_some.false in
    let device = device_seen s a.id c.find_device.result c.find_device.ensures ∙ sym c.is_some-2.ensures ∙ c.if-is_some-2.false in
    let listed : listed_in a.id (view (session s)).devices ≡ none = sym (c.find_listed.ensures w q t) ∙ ap told (c.in_err-bit.was {u = tt}) in
    ap object_told c.from_residual.ensures ∙ sym (live-listed (view (session s)) a.id n (view-connection s) passed seat device listed)

-- an interface
pub returns : goal.returns
unfolding interface_object
returns c w q t =
    let a = c.args in
    let passed : Passed (connection_of a.control.now) a.id = elim c.else-connection_id-id.branch [
      | else-connection_id-id-via-then-connection_id-id+else-not-connection_gone x ↦ gone-passed (connection_of a.control.now) a.id (sym x.connection_gone.ensures ∙ x.if-not-connection_gone.false)
      | else-connection_id-id-via-else-connection_id-id x ↦ other-passed (connection_of a.control.now) a.id (λ e. x.if-connection_id-id.false (c.connection_id.ensures ∙ e))
    ] in
    let s = store a.control.now w q t in
    let n = connection_of a.control.now in
    let seat = seat_seen s a.id c.find_seat.result c.find_seat.ensures ∙ sym c.is_some.ensures ∙ c.if-is_some.false in
    let device = device_seen s a.id c.find_device.result c.find_device.ensures ∙ sym c.is_some-2.ensures ∙ c.if-is_some-2.false in
    let listed : listed_in a.id (view (session s)).devices ≡ some c.in_ok-bit.bit = sym (c.find_listed.ensures w q t) ∙ ap told (c.in_ok-bit.was {u = tt}) in
    c.object_of.ensures ∙ ap (λ (i : ℕ). object_of i (version n i)) c.interface_of_bit.ensures
    ∙ sym (live-listed (view (session s)) a.id n (view-connection s) passed seat device listed)
