-- Behind the three numbers. Assumes nothing.
use native.Mathlib.Omega.{arith}
use Rattle.script_show.proofs.Sizes.{sizes_are}
use Rattle.script_show.proofs.records.text_start.Goals as goal

pub returns : goal.returns
returns c =
    let sized = rw c.kind_of.ensures.0 at (sizes_are c.kind_of.result c.kind_of.ensures.1) in
    rw (c.fixed_size.ensures, c.shape_of.ensures, c.kind_of.ensures.0) (omega (arith, sized.first, sized.second, sized.third))
