-- `script_play::lines::end_of` gives an end and a beginning within the text: `line_end` has its end there. Assumes nothing.
use Rattle.std.specs.Prelude.{ℕ, ◌≡◌, ◌≤◌, ◌<◌, length, List, IfSome, Option, Some, None}
use mathlib.Core.Path.{sym}
use Rattle.script.specs.declared.line.LineEnd.{LineEnd}
use Rattle.script.specs.Split.{line_end}
use Rattle.script.proofs.Lines.{end_bounds}
use native.Mathlib.Omega.{arith}
use Rattle.script_play.proofs.lines.end_of.Goals as goal

found_within : (text : List ℕ) (r : Option LineEnd) → r ≡ line_end text 0 (length text) → IfSome r (λ (e : LineEnd). e.end ≤ length text × (0 < e.next × e.next ≤ length text))
found_within text (Some e) h = let b = end_bounds text 0 (length text) e (sym h) in (omega (arith, b), (omega (arith, b), omega (arith, b)))
found_within text None h = tt

pub returns-then-is_some : goal.returns-then-is_some
returns-then-is_some c = found_within c.args.text.now _ c.line_end-ended.ensures
