-- The definitions' option has the same cases. Assumes nothing.
use Rattle.std.proofs.Common.{◌∙◌}
use Rattle.control.proofs.Versions.{stated_told}
use Rattle.control.proofs.stated.Goals as goal

pub returns : goal.returns
returns c = c.unwrap_or.ensures ∙ stated_told c.args.negotiated
