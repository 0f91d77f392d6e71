-- The seat that was found is the one that the model takes out; none found, none taken out. Assumes nothing.
use mathlib.Core.Path.{sym, ap, ◌∙◌}
use native.Mathlib.Omega.{arith}
use lib.Dec.{eqb}
use Rattle.eiproto.specs.Told.{told}
use Rattle.control.proofs.Models.{seat-passes}
use Rattle.session.proofs.Edits.{seat-removed, seat-missing}
use Rattle.session.proofs.remove_seat.Goals as goal

pub remove_seat_row-requires : goal.remove_seat_row-requires
remove_seat_row-requires c =
    let a = c.args in
    let k = sym c.find_seat.ensures ∙ ap told c.in-Some.is in
    (c.requires, omega (arith, (seat-passes a.control.now (λ s. eqb s.id a.id) _ k).within))

pub returns-in-Some : goal.returns-in-Some
returns-in-Some c =
    let a = c.args in
    let k = sym c.find_seat.ensures ∙ ap told c.in-Some.is in
    seat-removed a.id _ k c.remove_seat_row.ensures

pub returns-in_default : goal.returns-in_default
returns-in_default c =
    let a = c.args in
    seat-missing c.requires a.id (sym c.find_seat.ensures ∙ ap told c.in_default.is)
