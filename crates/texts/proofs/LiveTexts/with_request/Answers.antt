-- No text, or a text in a slot. Assumes nothing.
use Rattle.std.proofs.Common.{arith}
use Rattle.texts.proofs.Marks.{counted_past, counted_text}
use Rattle.texts.proofs.LiveTexts.with_request.Goals as goal

pub returns-then-slot-ge-TEXTS_LIMIT : goal.returns-then-slot-ge-TEXTS_LIMIT
returns-then-slot-ge-TEXTS_LIMIT c =
    counted_past c.args.self c.args.slot (omega arith)

pub returns : goal.returns
returns c =
    counted_text c.args.self c.args.slot (omega arith) _ (omega arith) (omega arith)
