-- The definitions' option has the same cases. Assumes nothing.
use Rattle.std.proofs.Common.{ap, ◌∙◌}
use Rattle.model.specs.Decide.{is_some, version}
use Rattle.control.specs.Control.{connection_of}
use Rattle.control.proofs.Versions.{some_told}
use Rattle.control.proofs.is_negotiated.Goals as goal

pub returns : goal.returns
returns c =
    c.is_some.ensures ∙ some_told c.version.result ∙ ap is_some (c.version.ensures ∙ ap (version (connection_of c.args.control.now)) c.interface_of_bit.ensures)
