-- The shapes that the code has are the definition. Assumes nothing.
use native.Mathlib.Omega.{arith}
use Rattle.event_messages.specs.Shape.{no_shape}
use Rattle.event_messages.proofs.Tables.{shape_in, past_shapes}
use Rattle.event_messages.proofs.shape_of.Goals as goal

pub returns-then-kind-gt18 : goal.returns-then-kind-gt18
returns-then-kind-gt18 c = past_shapes _ c.if-kind-gt18.true

pub returns : goal.returns
returns c = shape_in no_shape _ (omega arith)
