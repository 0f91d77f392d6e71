-- The first word ends in the line. Assumes nothing.
use Rattle.std.proofs.Common.{sym, length-take-le}
use Rattle.script_cases.proofs.verb.Goals as goal

pub slice_bounds-text-end : goal.slice_bounds-text-end
slice_bounds-text-end g c = sym (length-take-le c.word_end-end.result c.args.line.now c.word_end-end.ensures)
