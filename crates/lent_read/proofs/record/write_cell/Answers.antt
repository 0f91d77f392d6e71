-- The stores are those of the law on a record. Assumes nothing.
use Rattle.lent_read.proofs.Stores.{written}
use Rattle.lent_read.proofs.record.write_cell.Goals as goal

pub returns : goal.returns
returns c = written _ _ _ _ c.args.i c.args.c c.put_entries.ensures c.put_entries-2.ensures
