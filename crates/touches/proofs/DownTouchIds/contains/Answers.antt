-- It is held where it has a place. Assumes nothing.
use mathlib.Core.Path.{ap, ◌∙◌}
use Rattle.std.specs.Option.{is_some}
use Rattle.touches.specs.Touches.{held}
use Rattle.touches.proofs.Laws.{position-member}
use Rattle.touches.proofs.DownTouchIds.contains.Goals as goal

pub returns : goal.returns
returns c = c.is_some.ensures ∙ ap is_some c.position.ensures ∙ position-member c.args.id (held c.args.self.now)
