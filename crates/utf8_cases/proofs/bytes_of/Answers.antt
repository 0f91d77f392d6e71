-- `utf8_cases::bytes_of` meets its contract: the bytes of the line are those in the text, and then those of what is left. Assumes nothing.
use Prim.Native.Nat.{◌+◌}
use mathlib.Core.Path.{◌≡◌, refl}
use native.Mathlib.Omega.{arith}
use lib.ListN.{take, drop, length-set}
use Rattle.utf8_cases.specs.Hex.{behind, byte, bytes_of}
use Rattle.utf8_cases.proofs.Hex.{behind-none, space, cut, pair, no_high, no_low, both, all_read}
use Rattle.utf8_cases.proofs.bytes_of.Goals as goal

pub loop-i-init : goal.loop-i-init
loop-i-init c = (omega arith, omega arith, refl, behind-none (bytes_of c.args.line.now))

pub loop-i-preserved-then-line-i-eq32 : goal.loop-i-preserved-then-line-i-eq32
loop-i-preserved-then-line-i-eq32 c =
    let a = c.args in
    let l = c.loop-i in
    (omega arith, omega arith, omega arith, space a.line.now l.text l.i l.n c.loop-i-test.true l.invariant.3 c.if-line-i-eq32.true)

pub returns-then-line-i-lt2 : goal.returns-then-line-i-lt2
returns-then-line-i-lt2 c =
    let a = c.args in
    let l = c.loop-i in
    record { fits = omega arith; bytes = cut a.line.now l.text l.i l.n c.loop-i-test.true l.invariant.3 c.if-line-i-eq32.false c.if-line-i-lt2.true }

pub returns-then-high-gt15 : goal.returns-then-high-gt15
returns-then-high-gt15 c =
    let paired_at : bytes_of c.args.line.now ≡ behind (take c.loop-i.n c.loop-i.text) (byte c.value_of-high.result c.value_of-low.result (bytes_of (drop (c.loop-i.i + 2) c.args.line.now))) = let l = c.loop-i in
    rw (← c.value_of-high.ensures, ← c.value_of-low.ensures) at
    (pair c.args.line.now l.text l.i l.n c.loop-i-test.true l.invariant.3 c.if-line-i-eq32.false c.if-line-i-lt2.false) in
    let t = c.args.line.now in
    let l = c.loop-i in
    record { fits = omega arith; bytes = no_high t l.text l.n c.value_of-high.result c.value_of-low.result (bytes_of (drop (l.i + 2) t)) (paired_at) c.if-high-gt15.true }

pub returns-then-low-gt15 : goal.returns-then-low-gt15
returns-then-low-gt15 c =
    let paired_at : bytes_of c.args.line.now ≡ behind (take c.loop-i.n c.loop-i.text) (byte c.value_of-high.result c.value_of-low.result (bytes_of (drop (c.loop-i.i + 2) c.args.line.now))) = let l = c.loop-i in
    rw (← c.value_of-high.ensures, ← c.value_of-low.ensures) at
    (pair c.args.line.now l.text l.i l.n c.loop-i-test.true l.invariant.3 c.if-line-i-eq32.false c.if-line-i-lt2.false) in
    let t = c.args.line.now in
    let l = c.loop-i in
    record { fits = omega arith; bytes = no_low t l.text l.n c.value_of-high.result c.value_of-low.result (bytes_of (drop (l.i + 2) t)) (paired_at) c.if-high-gt15.false c.if-low-gt15.true }

pub loop-i-preserved : goal.loop-i-preserved
loop-i-preserved c =
    let paired_at : bytes_of c.args.line.now ≡ behind (take c.loop-i.n c.loop-i.text) (byte c.value_of-high.result c.value_of-low.result (bytes_of (drop (c.loop-i.i + 2) c.args.line.now))) = let l = c.loop-i in
    rw (← c.value_of-high.ensures, ← c.value_of-low.ensures) at
    (pair c.args.line.now l.text l.i l.n c.loop-i-test.true l.invariant.3 c.if-line-i-eq32.false c.if-line-i-lt2.false) in
    let t = c.args.line.now in
    let l = c.loop-i in
    (omega arith, omega arith, simp length-set (omega arith), both t l.text l.n c.value_of-high.result c.value_of-low.result (bytes_of (drop (l.i + 2) t)) (paired_at) c.if-high-gt15.false c.if-low-gt15.false (omega arith))

pub returns : goal.returns
returns c =
    let a = c.args in
    let l = c.loop-i in
    record { fits = omega arith; bytes = all_read a.line.now l.text l.i l.n c.loop-i-test.false l.invariant.3 }
