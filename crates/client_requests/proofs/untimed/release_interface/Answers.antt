-- The interface is listed no more and the serial raised: the model has these two edits in the other order. Assumes nothing.
use Rattle.answers.proofs.Meetings.{ends}
use mathlib.Core.Path.{refl, sym, ap, ◌∙◌}
use mathlib.Core.List.{[], ◌∷◌}
use native.Mathlib.Omega.{arith}
use Rattle.model.specs.Call.{Load, Plain, Call}
use Rattle.model.specs.Session.{Connection, view}
use Rattle.model.specs.Edit.{Amend, Edit, raised}
use Rattle.model.specs.Decide.{lists_as}
use Rattle.model_steps.proofs.Counted.{quiet-amend}
use Rattle.eiproto.specs.Told.{told}
use Rattle.control.proofs.Models.{device-passes}
use Rattle.session.specs.View.{store, session}
use Rattle.client_requests.proofs.Handling.{whole-rows, handled-answer, index_is, interface-plan, release-none, release-found, amended-connection, amend-raise, destroyed-short, destroyed-done}
use Rattle.client_requests.proofs.untimed.release_interface.Goals as goal

pub returns-then-out-lt-DESTROYED_LENGTH : goal.returns-then-out-lt-DESTROYED_LENGTH
returns-then-out-lt-DESTROYED_LENGTH c =
    let a = c.args in
    let q = index_is a.capability c.mask.ensures c.lowest-bit.ensures in
    let f = sym c.find_interface.ensures ∙ ap told c.in-Some.is in
    λ clock w r texts whole.
    let s = store a.control.now w r texts in
    destroyed-short s a.out.now (Call.plain (Plain.interface_release a.capability a.interface)) clock a.interface (Edit.amend _ (Amend.unlist _) ∷ [])
    (quiet-amend 1 _ (Amend.unlist _))
    (interface-plan (view (session s)) clock a.capability a.interface ∙ release-found s a.capability a.interface q f) _ whole (omega arith) (refl, refl)

pub unlist-requires : goal.unlist-requires
unlist-requires c =
    let a = c.args in
    let f = sym c.find_interface.ensures ∙ ap told c.in-Some.is in
    let g = device-passes a.control.now (λ d. lists_as c.lowest-bit.result a.interface d.interfaces) _ f in
    (c.requires, g.within)

pub raise-requires : goal.raise-requires
raise-requires c =
    (c.unlist.ensures [] [] [] Load.None).sound

pub returns : goal.returns
returns c =
    let a = c.args in
    let q = index_is a.capability c.mask.ensures c.lowest-bit.ensures in
    let f = sym c.find_interface.ensures ∙ ap told c.in-Some.is in
    let o = c.raise.ensures 1 (c.destroy-mark.ensures.serial ∙ ap (raised 1) (c.last_serial-serial.ensures ∙ ap (λ (x : Connection). x.last_serial) (sym (amended-connection c.unlist.ensures)))) in
    λ clock w r texts whole.
    let s = store a.control.now w r texts in
    let j = amend-raise (c.unlist.ensures w r texts _) (o w r texts _) in
    destroyed-done s a.out.now (Call.plain (Plain.interface_release a.capability a.interface)) clock a.interface (Edit.amend _ (Amend.unlist _) ∷ [])
    (quiet-amend 1 _ (Amend.unlist _))
    (interface-plan (view (session s)) clock a.capability a.interface ∙ release-found s a.capability a.interface q f) _
    (whole-rows whole j refl refl) (omega arith) c.last_serial-serial.ensures c.destroy-mark.ensures j (ends c.sent.ensures)

pub returns-in_default : goal.returns-in_default
returns-in_default c =
    let a = c.args in
    let q = index_is a.capability c.mask.ensures c.lowest-bit.ensures in
    λ clock w r texts whole.
    let s = store a.control.now w r texts in
    handled-answer s a.out.now (Call.plain (Plain.interface_release a.capability a.interface)) clock _ whole
    (interface-plan (view (session s)) clock a.capability a.interface
    ∙ release-none s a.capability a.interface q (sym c.find_interface.ensures ∙ ap told c.in_default.is))
    (ends c.accepted.ensures)
