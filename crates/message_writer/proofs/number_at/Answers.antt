-- The bytes stand behind zeros in eight. Assumes nothing.
use Prim.Native.Nat.{◌+◌, ◌-◌}
use mathlib.Core.Path.{◌≡◌, ◌∙◌}
use native.Mathlib.Omega.{arith}
use lib.ListN.{take, drop, length-drop}
use lib.Seq.{length-take-le}
use Rattle.message_writer.specs.Number.{big_at}
use Rattle.message_writer.proofs.Numbers.{last_bytes}
use Rattle.message_writer.proofs.number_at.Goals as goal

pub returns : goal.returns
unfolding big_at
returns c =
    let a = c.args in
    let m : a.at + a.k - a.at ≡ a.k = omega arith in
    let e : c.copy_from_slice.new.self ≡ take a.k (drop a.at a.bytes.now) = rw m at c.copy_from_slice.ensures.after in
    c.from_be_bytes.ensures
    ∙ last_bytes a.k (take a.k (drop a.at a.bytes.now)) c.copy_from_slice.new.self e (length-take-le a.k (drop a.at a.bytes.now) (omega (arith, length-drop a.at a.bytes.now))) c.requires.1
