-- The number of the name, then its version. Assumes nothing.
use mathlib.Core.Path.{ap, sym, ◌∙◌}
use Rattle.eiproto.specs.Told.{told}
use Rattle.model.specs.Decide.{negotiated}
use Rattle.control.specs.Control.{connection_of}
use Rattle.connection.proofs.negotiated.Goals as goal

pub returns-in_err-number : goal.returns-in_err-number
unfolding negotiated
returns-in_err-number c = ap told c.from_residual.ensures ∙ ap (negotiated (connection_of c.args.control.now)) c.in_err-number.ensures

pub returns : goal.returns
unfolding negotiated
returns c =
    c.version.ensures ∙ ap (negotiated (connection_of c.args.control.now)) (sym (ap told c.in_ok-number.was) ∙ c.find.ensures)
