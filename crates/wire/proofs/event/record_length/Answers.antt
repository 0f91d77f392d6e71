-- `wire::event::record_length` meets its contract: the text counts where the kind has one. Assumes nothing.
use native.Mathlib.Nat.{add-zero}
use Rattle.wire.specs.Record.{record_length}
use Rattle.wire.proofs.Records.{fixed_is, text_is}
use Rattle.wire.proofs.event.record_length.Goals as goal

pub returns-then-f : goal.returns-then-f
unfolding record_length
returns-then-f c =
    rw (fixed_is c.fields_of-f.ensures, text_is c.fields_of-f.ensures c.if-f.true c.args.text.now, c.fixed.ensures)

pub returns-else-f : goal.returns-else-f
unfolding record_length
returns-else-f c =
    rw (fixed_is c.fields_of-f.ensures, text_is c.fields_of-f.ensures c.if-f.false c.args.text.now, c.fixed-else-f.ensures, add-zero)
