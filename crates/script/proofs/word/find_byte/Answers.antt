-- As many bytes stand before the first such byte as its place says, and all do where there is none. Assumes nothing.
use Rattle.std.proofs.Common.{drop, arith, length-drop, sym, ◌∙◌}
use Rattle.script.proofs.Words.{before_found, before_none, rest}
use Rattle.script.proofs.word.find_byte.Goals as goal

pub returns-in-Some : goal.returns-in-Some
returns-in-Some c =
    let l = drop c.args.from c.args.s.now in
    omega (arith, before_found c.args.b l c.in-Some.k (rw rest at (sym c.first.ensures ∙ c.in-Some.is)))

pub returns-in-None : goal.returns-in-None
returns-in-None c =
    let l = drop c.args.from c.args.s.now in
    omega (arith, before_none c.args.b l (rw rest at (sym c.first.ensures ∙ c.in-None.is)), length-drop c.args.from c.args.s.now, c.requires)
