-- 2 has its own pattern, and any other refusal its number. Assumes nothing.
use native.Mathlib.Omega.{arith}
use mathlib.Core.Path.{ap, ◌∙◌}
use Rattle.script_show.specs.Answer.{result_shown}
use Rattle.script_show.proofs.Numbers.{error_most, plain_error}
use Rattle.script_show.proofs.lines.refused.Goals as goal

pub refusal-requires : goal.refusal-requires
refusal-requires c =
    omega (arith, c.number.ensures, error_most c.args.e)

pub returns : goal.returns
returns c = c.refusal.ensures ∙ rw c.number.ensures (ap (result_shown c.args.explained) (plain_error c.args.e c.in_default.not-InvalidInterfaceVersion))
