-- The end of a line lies in what is left, and the next line begins behind it. Assumes nothing.
use Rattle.std.proofs.Common.{sym, ◌∙◌, arith, length-take-le, length-take, length-drop}
use Rattle.script.proofs.Lines.{end_bounds}
use Rattle.script_cases.proofs.lines.Goals as goal

pub slice_bounds-say-end : goal.slice_bounds-say-end
slice_bounds-say-end g c =
    let b = end_bounds c.loop-end.rest.now _ _ c.in-Some.field-0 (sym c.line_end.ensures ∙ c.in-Some.is) in
    sym (length-take-le c.in-Some.field-0.end c.loop-end.rest.now (omega (arith, b)))

pub slice_bounds-rest-count : goal.slice_bounds-rest-count
slice_bounds-rest-count g c =
    omega (arith, end_bounds c.loop-end.rest.now _ _ c.in-Some.field-0 (sym c.line_end.ensures ∙ c.in-Some.is))

pub slice_bounds-rest-start : goal.slice_bounds-rest-start
slice_bounds-rest-start g c =
    omega (arith, end_bounds c.loop-end.rest.now _ _ c.in-Some.field-0 (sym c.line_end.ensures ∙ c.in-Some.is))

pub loop-end-smaller : goal.loop-end-smaller
loop-end-smaller g c =
    let b = end_bounds c.loop-end.rest.now _ _ c.in-Some.field-0 (sym c.line_end.ensures ∙ c.in-Some.is) in
    simp (length-take, length-drop) (omega (arith, b))
