-- A number past a byte's is no interface's. Assumes nothing.
use mathlib.Core.Path.{sym}
use native.Mathlib.Omega.{arith}
use Rattle.script_pattern.proofs.Lines.{written_is, written_none}
use Rattle.script_pattern.proofs.Patterns.{no_interface}
use Rattle.script_pattern.proofs.mark.interface.Goals as goal

pub returns-in_default : goal.returns-in_default
returns-in_default c =
    let past = c.in_default.ensures in
    written_is (written_none c.args.line.now) (sym (no_interface c.args.n (omega (arith, past))))
