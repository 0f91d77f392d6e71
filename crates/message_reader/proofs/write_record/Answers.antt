-- There is room for the record, or there is not. Assumes nothing.
use mathlib.Core.Path.{refl}
use native.Mathlib.Omega.{arith}
use Rattle.message_reader.proofs.Back.{fixed-small, fields_so, no_room, record_put}
use Rattle.message_reader.proofs.write_record.Goals as goal

pub overflow_add-size : goal.overflow_add-size
overflow_add-size c =
    let h = fixed-small c.args.kind c.shape_of-s.ensures c.requires.0 in
    omega arith

pub returns-then-out-size : goal.returns-then-out-size
returns-then-out-size c =
    let a = c.args in
    no_room a.object a.kind a.v a.text.now c.shape_of-s.ensures a.out.now (rw c.fixed_size.ensures at c.if-out-size.true)

pub put_whole-requires : goal.put_whole-requires
put_whole-requires c =
    let h = fixed-small c.args.kind c.shape_of-s.ensures c.requires.0 in
    rw (c.from.ensures, c.number.ensures, c.number-2.ensures, c.number-3.ensures) (omega arith, h)

pub returns : goal.returns
returns c =
    let a = c.args in
    let put = rw (c.from.ensures, c.number.ensures, c.number-2.ensures, c.number-3.ensures, fields_so a.object a.kind a.v a.text.now c.shape_of-s.ensures refl refl refl) at c.put_whole.ensures in
    rw c.fixed_size.ensures (record_put a.object a.kind a.v a.text.now c.shape_of-s.ensures (rw c.fixed_size.ensures at c.if-out-size.false) put)
