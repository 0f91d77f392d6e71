-- The loop passes devices that list none with the id. Assumes nothing.
use Rattle.std.proofs.Common.{sym, ap, ◌∙◌, arith}
use Rattle.eiproto.specs.Told.{told}
use Rattle.model.specs.Live.{listed_as, listed_in}
use Rattle.control.specs.Control.{device_count}
use Rattle.session.specs.View.{store}
use Rattle.session.proofs.Views.{device_seen, seen-devices, device-interfaces}
use Rattle.objects.proofs.Listing.{listed-first, listed_nowhere}
use Rattle.objects.proofs.find_listed.Goals as goal

pub returns-in-Some : goal.returns-in-Some
returns-in-Some c w q t =
    let a = c.args in
    let l = c.loop-k in
    let s = store a.control.now w q t in
    sym (ap (listed_in a.id) (seen-devices s)
    ∙ listed-first a.id (device_count a.control.now) l.k c.in-Some.bit (device_seen s) (omega arith)
    (ap (listed_as a.id) (device-interfaces s l.k) ∙ sym c.listed_on.ensures ∙ ap told c.in-Some.is)
    (λ j q. ap (listed_as a.id) (device-interfaces s j) ∙ l.invariant j q))

pub returns : goal.returns
returns c w q t =
    let a = c.args in
    let l = c.loop-k in
    let s = store a.control.now w q t in
    sym (ap (listed_in a.id) (seen-devices s)
    ∙ listed_nowhere a.id (device_count a.control.now) (device_seen s) (λ j q. ap (listed_as a.id) (device-interfaces s j) ∙ l.invariant j (omega arith)))
