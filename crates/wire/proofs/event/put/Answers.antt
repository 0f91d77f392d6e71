-- `wire::event::put` meets its contract: four or eight bytes at once, others from the last to the first. Assumes nothing.
use Prim.Native.Nat.{ℕ, ◌+◌, ◌-◌, ◌*◌, ◌^◌, ◌%◌}
use mathlib.Core.Path.{◌≡◌, refl, ap, ◌∙◌, sym}
use mathlib.Core.List.{List, [], ◌∷◌, append-nil}
use native.Mathlib.Nat.{add-zero}
use native.Mathlib.Omega.{arith}
use lib.ListN.{length, set}
use Rattle.std.specs.Int.{bytes_high_first}
use Rattle.wire.specs.Bits.{be}
use Rattle.wire.specs.Put.{Wrote}
use Rattle.wire.proofs.Bytes.{length-be, be-last, low_bytes}
use Rattle.wire.proofs.Splices.{splice-none, splice_front}
use Rattle.wire.proofs.event.put.Goals as goal

-- the low k bytes of a number, all at once
at_once : (k v : ℕ) {out later xs : List ℕ} {at r : ℕ} → xs ≡ bytes_high_first k (v % 2 ^ (8 * k)) → Wrote out later at (length xs) xs r → Wrote out later at k (be k v) r
at_once k v e w = rw (e, low_bytes k v, length-be k v) at w

pub loop-i-init : goal.loop-i-init
loop-i-init c = ([], (omega arith, (sym (append-nil _), sym (splice-none _ _))))

pub loop-i-preserved : goal.loop-i-preserved
loop-i-preserved c =
    let a = c.args in
    let l = c.loop-i in
    let j = l.i - 1 in
    let t = l.invariant.0 in
    let r = l.invariant.1 in (
      l.rest % 256 ∷ t,
      (
        omega (arith, r.0),
        (
          r.1.0 ∙ be-last l.i j l.rest t (omega arith),
          ap (λ out. set out (a.at + j) (l.rest % 256)) r.1.1
              ∙ splice_front a.out.now (a.at + j) (a.at + l.i) (l.rest % 256) t (omega arith) (omega (arith, r.0, c.requires)),
        ),
      ),
    )

pub returns-after-loop-i : goal.returns-after-loop-i
unfolding be
returns-after-loop-i c =
    let n = c.args.number in
    let l = c.loop-i in
    let r = l.invariant.1.1 in
    let z : l.i ≡ 0 = omega arith in
    let e : be n.bytes n.value ≡ l.invariant.0 = rw z at r.0 in
    record { buffer = r.1 ∙ rw (z, add-zero, e); long = length-be n.bytes n.value; next = refl }

pub returns-in-4 : goal.returns-in-4
returns-in-4 c = rw c.in-4.is (at_once 4 c.args.number.value c.to_be_bytes.ensures c.put_text.ensures)

pub returns-in-8 : goal.returns-in-8
returns-in-8 c =
    let v = c.args.number.value in
    let small : v % 2 ^ 64 ≡ v = omega arith in
    rw c.in-8.is (at_once 8 v (rw small c.to_be_bytes-in-8.ensures) c.put_text-in-8.ensures)
