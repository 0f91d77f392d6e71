-- One record, where there is room for it. Assumes nothing.
use Rattle.std.proofs.Common.{arith}
use Rattle.events.proofs.Writes.{one_length, sends_one}
use Rattle.events.proofs.send.Goals as goal

pub overflow_add-result : goal.overflow_add-result
overflow_add-result c =
    let a = c.args in
    omega (arith, (sends_one c.requires c.put_record.ensures).next, one_length a.object a.e a.text.now, c.requires)

pub returns : goal.returns
returns c =
    sends_one c.requires c.put_record.ensures
