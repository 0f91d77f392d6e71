-- The words behind the last device, then the count. Assumes nothing.
use Rattle.std.proofs.Common.{◌%◌, refl, arith, length-set}
use Rattle.control.proofs.Changes.{wrote_none, wrote_one, new_words, device_appended}
use Rattle.control.proofs.edits.append_device.Goals as goal

pub bounds-control-at-2 : goal.bounds-control-at-2
bounds-control-at-2 c =
    simp length-set (omega arith)

pub bounds-control-at-3 : goal.bounds-control-at-3
bounds-control-at-3 c =
    simp length-set (omega arith)

pub bounds-control-at-4 : goal.bounds-control-at-4
bounds-control-at-4 c =
    simp length-set (omega arith)

pub bounds-control-at-5 : goal.bounds-control-at-5
bounds-control-at-5 c =
    simp length-set (omega arith)

pub bounds-control-at-6 : goal.bounds-control-at-6
bounds-control-at-6 c =
    simp length-set (omega arith)

pub bounds-control-4-2 : goal.bounds-control-4-2
bounds-control-4-2 c =
    simp length-set (omega arith)

pub shape_of-control : goal.shape_of-control
shape_of-control c =
    simp length-set

pub returns : goal.returns
returns c =
    let a = c.args in
    let mask = a.capabilities % 128 in
    device_appended a.control.now _ c.requires.0 a.id a.seat mask (omega arith) c.requires.1
    (wrote_one _ 0 refl refl (omega arith)
    (wrote_one _ 0 refl refl (omega arith)
    (wrote_one _ mask refl refl (omega arith)
    (wrote_one _ mask refl refl (omega arith)
    (wrote_one _ a.seat refl refl (omega arith)
    (wrote_one _ a.id (omega arith) refl (omega arith) (wrote_none a.control.now _ (new_words a.id a.seat mask))))))))
