-- The table is that of the definition. Assumes nothing.
use Rattle.script_pattern.proofs.Patterns.{pattern-past, pattern_is}
use Rattle.script_pattern.proofs.table.pattern_at.Goals as goal

pub returns-then-patterns-n : goal.returns-then-patterns-n
returns-then-patterns-n c = pattern-past c.args.patterns.now c.requires c.args.n c.if-patterns-n.true

pub returns : goal.returns
returns c = pattern_is c.args.patterns.now c.requires c.args.n _ c.if-patterns-n.false
