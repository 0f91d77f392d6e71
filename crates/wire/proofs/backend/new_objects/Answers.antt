-- `wire::backend::new_objects` meets its contract: a sum that leaves 64 bits is the definition's case of none. Assumes nothing.
use Rattle.wire.proofs.Ids.{ids_checked}
use Rattle.wire.proofs.backend.new_objects.Goals as goal

pub returns : goal.returns
returns c = ids_checked c.args.next c.args.count c.checked_add.ensures
