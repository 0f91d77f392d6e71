-- Zeros, and then three words are written. Assumes nothing.
use Rattle.std.proofs.Common.{refl, arith}
use Rattle.control.proofs.Changes.{wrote_none, wrote_one}
use Rattle.control.proofs.Starts.{fresh-words}
use Rattle.control.proofs.edits.new.Goals as goal

pub returns : goal.returns
returns c =
    let a = c.args in
    let b = c.loop-i.control in
    fresh-words b _ (omega arith) (λ j l. c.loop-i.invariant j (omega arith)) a.connection a.serial c.from.result a.next (omega arith) c.from.ensures
    (wrote_one 2 a.next refl refl (omega arith) (wrote_one 1 c.from.result refl refl (omega arith) (wrote_one 0 a.connection refl refl (omega arith) (wrote_none b 0 _))))
