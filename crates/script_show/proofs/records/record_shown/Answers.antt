-- The three numbers, each at its place. Assumes nothing.
use Rattle.script_show.proofs.Sizes.{sizes_are}
use Rattle.script_show.proofs.records.record_shown.Goals as goal

pub returns : goal.returns
returns c =
    let sized = rw c.kind_of-kind.ensures.0 at (sizes_are c.kind_of-kind.result c.kind_of-kind.ensures.1) in
    rw (
      c.number_at.ensures,
      c.number_at-2.ensures,
      c.number_at-3.ensures,
      c.width-first.ensures.0,
      c.width-second.ensures.0,
      c.width-third.ensures.0,
      c.shape_of-shape.ensures,
      c.from.ensures,
      c.kind_of-kind.ensures.0,
      sized.first,
      sized.second,
      sized.third,
    )
