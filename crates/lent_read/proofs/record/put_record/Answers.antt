-- What was written means the record. Assumes nothing.
use Rattle.requests.proofs.Stores.{mapped}
use Rattle.lent_read.specs.Numbers.{record_of, record_at}
use Rattle.lent_read.proofs.record.put_record.Goals as goal

pub returns : goal.returns
unfolding record_at
returns c = mapped record_of c.write_cell.ensures c.cell_of.ensures
