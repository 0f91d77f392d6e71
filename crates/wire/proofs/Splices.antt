-- Laws of `splice` and `fitted`: writing one run of bytes behind another. Assumes nothing.
use Prim.Native.Nat.{ℕ, suc, ◌+◌, ◌-◌, ◌≤◌, ◌<◌}
use mathlib.Core.Path.{◌≡◌, refl, sym, ap, ap₂, ◌∙◌}
use mathlib.Core.List.{List, [], ◌∷◌, ◌++◌, append_assoc}
use mathlib.Core.Logic.{dite}
use native.Mathlib.Decide.{dec_le}
use native.Mathlib.Nat.{add-zero, add_assoc}
use native.Mathlib.Numerals.{add-one}
use native.Mathlib.Omega.{arith}
use borrow.Author.Tests.{le-leb, lt-leb}
use lib.ListN.{length, get_or, take, drop, set, length-append, length-drop, take-append-drop}
use lib.Seq.{drop-cons, take-suc, set_at, length-take-le, take-append-le, drop-append-le, drop-drop, take_at, drop_at}
use borrow.Rule.Slice.PartMut.{put_mid}
use Rattle.wire.specs.Bits.{splice, fitted}
use Rattle.wire.specs.Put.{PutWhole, Wrote}

pub splice-none : (out : List ℕ) (at : ℕ) → splice out at [] ≡ out
unfolding splice
splice-none out at = rw (add-zero, take-append-drop)

pub length-splice : (out : List ℕ) (at : ℕ) (bytes : List ℕ) → at + length bytes ≤ length out → length (splice out at bytes) ≡ length out
unfolding splice
length-splice out at bytes fits = simp (length-append, length-drop, length-take-le at out (omega arith)) (omega arith)

-- a part of the buffer that is copied over
pub splice_part : (out xs ys : List ℕ) (at : ℕ) → ys ≡ xs → at + length xs ≤ length out → put_mid at (at + length xs - at) out ys ≡ splice out at xs
unfolding splice
splice_part out xs ys at e h =
    let k : at + length xs - at ≡ length xs = omega arith in
    rw (e, k, drop-drop (length xs) at out)

-- one byte more in front
pub splice_front : (out : List ℕ) (n m b : ℕ) (bytes : List ℕ) → m ≡ n + 1 → m + length bytes ≤ length out → set (splice out m bytes) n b ≡ splice out n (b ∷ bytes)
unfolding splice
splice_front out n m b bytes e h =
    let p : n < length out = omega arith in
    let q : length (take n out) ≡ n = length-take-le n out (omega arith) in
    let r : n + suc (length bytes) ≡ suc n + length bytes = omega arith in
    rw (e, add-one, take-suc out n 0, r, append_assoc (take n out) (get_or out n 0 ∷ []))
    (set_at (take n out) (get_or out n 0) (bytes ++ drop (suc n + length bytes) out) b n q)

-- the same of a list that is copied from its end on
pub splice-drop : (out xs : List ℕ) (at i j : ℕ) → i ≡ j + 1 → i ≤ length xs → at + length xs ≤ length out → set (splice out (at + i) (drop i xs)) (at + j) (get_or xs j 0) ≡ splice out (at + j) (drop j xs)
splice-drop out xs at i j e h fits =
    let l = length-drop i xs in
    let q : drop j xs ≡ get_or xs j 0 ∷ drop i xs = rw (e, add-one) (drop-cons xs j 0 (omega arith)) in
    rw q (splice_front out (at + j) (at + i) (get_or xs j 0) (drop i xs) (omega arith) (omega arith))

-- two runs, one behind the other, are one run
pub splice-splice : (out : List ℕ) (at : ℕ) (xs ys : List ℕ) → at + (length xs + length ys) ≤ length out → splice (splice out at xs) (at + length xs) ys ≡ splice out at (xs ++ ys)
unfolding splice
splice-splice out at xs ys h =
    let q : length (take at out) ≡ at = length-take-le at out (omega arith) in
    let rest = drop (at + length xs) out in
    let e : length (take at out ++ xs) ≡ at + length xs = length-append (take at out) xs ∙ ap (λ (n : ℕ). n + length xs) q in
    let g : take at out ++ (xs ++ rest) ≡ take at out ++ xs ++ rest = sym (append_assoc (take at out) xs rest) in
    let a : take (at + length xs) (take at out ++ (xs ++ rest)) ≡ take at out ++ xs = ap (take (at + length xs)) g ∙ take_at (take at out ++ xs) rest (at + length xs) e in
    let b : drop (at + length xs + length ys) (take at out ++ (xs ++ rest)) ≡ drop (at + length (xs ++ ys)) out =
    ap (drop (at + length xs + length ys)) g ∙ sym (drop-drop (length ys) (at + length xs) (take at out ++ xs ++ rest))
    ∙ ap (drop (length ys)) (drop_at (take at out ++ xs) rest (at + length xs) e) ∙ drop-drop (length ys) (at + length xs) out
    ∙ ap (λ (n : ℕ). drop n out) (add_assoc at (length xs) (length ys) ∙ ap (λ (n : ℕ). at + n) (sym (length-append xs ys))) in
    rw (a, b, append_assoc (take at out) xs, append_assoc xs ys)

-- ---- what is read of it

-- a part of the first of two lists
front : (p q : List ℕ) (a n : ℕ) → a + n ≤ length p → take n (drop a (p ++ q)) ≡ take n (drop a p)
front p q a n h = ap (take n) (drop-append-le a p q (omega arith)) ∙ take-append-le n (drop a p) q (let e = length-drop a p in omega arith)

module _ (out xs : List ℕ) (at : ℕ) (fits : at + length xs ≤ length out) where
  abbrev rest : List ℕ
  rest = drop (at + length xs) out

  head-length : length (take at out) ≡ at
  head-length = length-take-le at out (omega arith)

  -- the run itself
  pub splice_here : take (length xs) (drop at (splice out at xs)) ≡ xs
  unfolding splice
  splice_here = ap (take (length xs)) (drop_at (take at out) (xs ++ rest) at head-length) ∙ take_at xs rest (length xs) refl

  -- what ends before it
  pub splice-before : (a n : ℕ) → a + n ≤ at → take n (drop a (splice out at xs)) ≡ take n (drop a out)
  unfolding splice
  splice-before a n h =
      let q = head-length in
      front (take at out) (xs ++ rest) a n (omega arith)
      ∙ sym (front (take at out) (drop at out) a n (omega arith)) ∙ ap (λ (l : List ℕ). take n (drop a l)) (take-append-drop at out)

  -- what begins behind it
  pub splice-behind : (a n : ℕ) → at + length xs ≤ a → take n (drop a (splice out at xs)) ≡ take n (drop a out)
  unfolding splice
  splice-behind a n h =
      let b = at + length xs in
      let e : a ≡ b + (a - b) = omega arith in
      let q : length (take at out ++ xs) ≡ b = length-append (take at out) xs ∙ ap (λ (k : ℕ). k + length xs) head-length in
      let whole : take at out ++ (xs ++ rest) ≡ take at out ++ xs ++ rest = sym (append_assoc (take at out) xs rest) in
      ap (take n)
      (ap₂ (λ (k : ℕ) (l : List ℕ). drop k l) e whole ∙ sym (drop-drop (a - b) b (take at out ++ xs ++ rest))
      ∙ ap (drop (a - b)) (drop_at (take at out ++ xs) rest b q)
      ∙ drop-drop (a - b) b out ∙ ap (λ (k : ℕ). drop k out) (sym e))

-- ---- writes

-- a second write, behind the first
pub wrote_join : {out mid later : List ℕ} {at b r n m : ℕ} {xs ys : List ℕ} → Wrote out mid at n xs b → Wrote mid later b m ys r → at + (n + m) ≤ length out → Wrote out later at (n + m) (xs ++ ys) r
wrote_join {out} {at = at} {b = b} {xs = xs} {ys = ys} p q h =
    let x = p.long in
    let y = q.long in
    let e : b ≡ at + length xs = omega arith in
    record {
      buffer = q.buffer ∙ rw (p.buffer, e) (splice-splice out at xs ys (omega arith));
      long = length-append xs ys ∙ omega arith;
      next = omega arith;
    }

-- nothing written yet
pub wrote_none : (out : List ℕ) (at : ℕ) → Wrote out out at 0 [] at
wrote_none out at = record { buffer = sym (splice-none out at); long = refl; next = sym (add-zero at) }

pub fitted_all : (out : List ℕ) (at : ℕ) (bytes : List ℕ) → at + length bytes ≤ length out → fitted out at bytes ≡ bytes
unfolding fitted
fitted_all out at bytes h = rw (le-leb (at + length bytes) (length out) h)

pub fitted_none : (out : List ℕ) (at : ℕ) (bytes : List ℕ) → length out < at + length bytes → fitted out at bytes ≡ []
unfolding fitted
fitted_none out at bytes h = rw (lt-leb (at + length bytes) (length out) h)

-- writing what fits, and nothing where it does not
pub put_none : (out : List ℕ) (at : ℕ) (bytes : List ℕ) → length out < at + length bytes → PutWhole out out at bytes 0
put_none out at bytes h =
    let e = fitted_none out at bytes h in
    record { count = rw e; buffer = rw (e, splice-none) }

pub put_all : {out later : List ℕ} {at n r : ℕ} {bytes : List ℕ} → Wrote out later at n bytes r → at + n ≤ length out → PutWhole out later at bytes n
put_all {out} {at = at} {bytes = bytes} w h =
    let l = w.long in
    let e = fitted_all out at bytes (omega arith) in
    record { count = rw (e, l); buffer = rw e w.buffer }

-- bytes put behind others that stand already, where there is room
pub wrote_put : {out mid later : List ℕ} {at b n r : ℕ} {xs ys : List ℕ} → Wrote out mid at n xs b → PutWhole mid later b ys r → at + (n + length ys) ≤ length out → Wrote out later at (n + length ys) (xs ++ ys) (b + r)
wrote_put {out} {mid} {at = at} {b = b} {xs = xs} {ys = ys} w p h =
    let x = w.long in
    let l : length mid ≡ length out = rw w.buffer (length-splice out at xs (omega arith)) in
    let e = fitted_all mid b ys (omega (arith, w.next)) in
    wrote_join w (record { buffer = rw e at p.buffer; long = refl; next = rw e at (ap (λ (k : ℕ). b + k) p.count) }) h

-- no more bytes are put than the buffer has
pub put_le : {out later : List ℕ} {at r : ℕ} {bytes : List ℕ} → PutWhole out later at bytes r → r ≤ length out
put_le {out} {at = at} {bytes = bytes} p =
    dite (dec_le (at + length bytes) (length out))
    (λ h. rw (p.count, fitted_all out at bytes h) (omega arith))
    (λ h. rw (p.count, fitted_none out at bytes (omega arith)) (omega arith))
