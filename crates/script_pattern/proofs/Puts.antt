-- Laws of writing into a line: one run of bytes behind another is one run. Assumes nothing.
use Prim.Native.Nat.{ℕ, suc, ◌+◌, ◌≤◌, ◌<◌}
use mathlib.Core.Path.{◌≡◌, refl, sym, ◌∙◌}
use mathlib.Core.List.{List, [], ◌∷◌, ◌++◌}
use mathlib.Core.Logic.{dite}
use native.Mathlib.Decide.{dec_le}
use native.Mathlib.Nat.{add-zero, zero-add}
use native.Mathlib.Numerals.{add-one}
use native.Mathlib.Omega.{arith}
use lib.ListN.{length, get_or, take, drop, set, length-append, drop_of_length-le}
use lib.Seq.{sets, length-sets, sets-eq, set_out, drop-cons, take-append_seam}
use Rattle.script_pattern.specs.Put.{Put}
use Rattle.script_pattern.specs.Digits.{each}

sets_append : (l : List ℕ) (i : ℕ) (xs ys : List ℕ) → sets (sets l i xs) (i + length xs) ys ≡ sets l i (xs ++ ys)
sets_append l i [] ys = rw add-zero
sets_append l i (x ∷ xs) ys =
    let e : i + suc (length xs) ≡ suc i + length xs = omega arith in
    rw e (sets_append (set l i x) (suc i) xs ys)

sets_out : (l : List ℕ) (i : ℕ) (ys : List ℕ) → length l ≤ i → sets l i ys ≡ l
sets_out l i [] h = refl
sets_out l i (y ∷ ys) h = rw (set_out l i y h) (sets_out l (suc i) ys (omega arith))

pub put_length : {line later : List ℕ} {at r : ℕ} {xs : List ℕ} → Put line later at r xs → length later ≡ length line
put_length {line} {at = at} {xs = xs} p = rw p.stored (length-sets line at xs)

pub put_one : (line : List ℕ) (at b : ℕ) → at < length line → Put line (set line at b) at (at + 1) (b ∷ [])
put_one line at b h = record { stored = refl; next = omega arith }

pub put_full : (line : List ℕ) (at : ℕ) (xs : List ℕ) → length line ≤ at → Put line line at at xs
put_full line at xs h = record { stored = sym (sets_out line at xs h); next = omega arith }

-- THE LAW: bytes, and more bytes from the place behind them on
pub put_then : {line mid later : List ℕ} {at a r : ℕ} {xs ys : List ℕ} → Put line mid at a xs → Put mid later a r ys → Put line later at r (xs ++ ys)
put_then {line} {mid} {later} {at} {a} {r} {xs} {ys} p q =
    let n = put_length p in
    record {
      stored = q.stored
          ∙ dite (dec_le (at + length xs) (length line))
          (λ h. let e : a ≡ at + length xs = omega (arith, p.next) in rw (e, p.stored) (sets_append line at xs ys))
          (λ h.
          sets_out mid a ys (omega (arith, p.next))
          ∙ sym (sets_out mid (at + length xs) ys (omega arith))
          ∙ rw p.stored (sets_append line at xs ys));
      next = omega (arith, p.next, q.next, length-append xs ys);
    }

pub put_none : (line : List ℕ) (at : ℕ) → Put line line at at []
put_none line at = record { stored = refl; next = omega arith }

pub put_is : {line later : List ℕ} {at r : ℕ} {xs ys : List ℕ} → Put line later at r xs → xs ≡ ys → Put line later at r ys
put_is p e = rw e at p

-- ---- what a line holds that was written from its start on

-- no more than there is room for
pub put_within : {line later : List ℕ} {r : ℕ} {xs : List ℕ} → Put line later 0 r xs → r ≤ length later
put_within p = let n = put_length p in omega (arith, p.next)

-- all of it, where there is room
pub put_read : {line later : List ℕ} {r : ℕ} {xs : List ℕ} → Put line later 0 r xs → length xs ≤ length line → take r later ≡ xs
put_read {line} {later} {r} {xs} p h =
    let e : r ≡ length xs = omega (arith, p.next) in
    let s : later ≡ xs ++ drop (length xs) line = p.stored ∙ sets-eq xs line 0 (omega arith) ∙ rw zero-add in
    rw (s, e) (take-append_seam xs (drop (length xs) line))

-- ---- in a loop: what is left of a list from a place on

pub drop_on : (s : List ℕ) (i : ℕ) → i < length s → drop i s ≡ (get_or s i 0 ∷ []) ++ drop (i + 1) s
drop_on s i h = rw (add-one, drop-cons s i 0)

-- the bytes that are made of it, and those at its end
pub each_on : (f : ℕ → List ℕ) (s : List ℕ) (i : ℕ) → i < length s → each f (drop i s) ≡ f (get_or s i 0) ++ each f (drop (i + 1) s)
unfolding each
each_on f s i h = rw (add-one, drop-cons s i 0)

pub each_end : (f : ℕ → List ℕ) (s : List ℕ) (i : ℕ) → length s ≤ i → each f (drop i s) ≡ []
unfolding each
each_end f s i h = rw (drop_of_length-le s h)
