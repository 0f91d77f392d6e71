-- The stores are those of the law on a row. Assumes nothing.
use Rattle.requests.proofs.Stores.{written}
use Rattle.requests.proofs.row.write_cell.Goals as goal

pub returns : goal.returns
returns c = written _ _ _ _ c.args.row c.args.c c.put_entries.ensures c.put_entries-2.ensures
