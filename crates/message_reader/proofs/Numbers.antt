-- A number's bytes, the least significant first, and the number read of them. Assumes nothing.
use Prim.Native.Nat.{ℕ, suc, ◌+◌, ◌-◌, ◌/◌, ◌%◌, ◌^◌, ◌≤◌}
use mathlib.Core.List.{List, ◌++◌, append_assoc}
use mathlib.Core.Path.{◌≡◌, refl, sym, ap, ◌∙◌}
use native.Mathlib.Nat.{add-zero}
use native.Mathlib.Omega.{arith}
use borrow.Author.Tests.{le-leb}
use lib.ListN.{length, take, drop, replicate, length-append, length-drop, length-replicate}
use lib.Seq.{get_or-drop, drop-drop, drop-append_seam, take-append_seam}
use Rattle.parse.specs.Parse.{le32, le64}
use Rattle.event_messages.specs.Message.{le, padded, string}
use Rattle.message_writer.proofs.Bytes.{length-le}
use Rattle.message_reader.specs.Read.{word_at, double_at, part_of, text_of, text_at}

-- ---- at a place

-- what stands behind some bytes
pub behind : (m : List ℕ) (at : ℕ) (xs rest : List ℕ) {next : ℕ} → drop at m ≡ xs ++ rest → next ≡ at + length xs → drop next m ≡ rest
behind m at xs rest e n = rw n (sym (drop-drop (length xs) at m) ∙ ap (drop (length xs)) e ∙ drop-append_seam xs rest)

-- a number's bytes are within
room : (m : List ℕ) (at k x : ℕ) (rest : List ℕ) → drop at m ≡ le (suc k) x ++ rest → at + (suc k + length rest) ≡ length m
room m at k x rest e = omega (arith, length-drop at m, simp (length-append, length-le) at (ap length e))

le32_from : (m : List ℕ) (at : ℕ) → le32 m at ≡ le32 (drop at m) 0
unfolding le32
le32_from m at = rw (get_or-drop at m 0 0, get_or-drop at m 1 0, get_or-drop at m 2 0, get_or-drop at m 3 0, add-zero)

-- the number of the four low bytes of x, and of the eight
le32-le : (m : List ℕ) (at x : ℕ) (rest : List ℕ) → drop at m ≡ le 4 x ++ rest → le32 m at ≡ x % 2 ^ 32
unfolding le32 le
le32-le m at x rest e = le32_from m at ∙ rw e (omega arith)

pub word-le : (m : List ℕ) (at x : ℕ) (rest : List ℕ) → drop at m ≡ le 4 x ++ rest → word_at m at ≡ x % 2 ^ 32
unfolding word_at le
word-le m at x rest e =
    let r = room m at 3 x rest e in
    rw (le-leb (at + 4) (length m) (omega arith)) (le32-le m at x rest e)

pub double_le : (m : List ℕ) (at x : ℕ) (rest : List ℕ) → drop at m ≡ le 8 x ++ rest → double_at m at ≡ x % 2 ^ 64
unfolding double_at le64 le
double_le m at x rest e =
    let r = room m at 7 x rest e in
    let y = x / 256 / 256 / 256 / 256 in
    let low = le32-le m at x (le 4 y ++ rest) e in
    let high = le32-le m (at + 4) y rest (behind m at (le 4 x) (le 4 y ++ rest) e refl) in
    rw (le-leb (at + 8) (length m) (omega arith), low, high) (omega arith)

-- ---- a string at a place

module _ (m : List ℕ) (at : ℕ) (text rest : List ℕ) (small : length text ≤ 254) (e : drop at m ≡ string text ++ rest) where
  zeros : List ℕ
  zeros = replicate (padded (length text + 1) - length text) 0

  counted : drop at m ≡ le 4 (length text + 1) ++ (text ++ (zeros ++ rest))
  unfolding string zeros
  counted = e ∙ simp append_assoc

  text-behind : drop (at + 4) m ≡ text ++ (zeros ++ rest)
  text-behind = behind m at (le 4 (length text + 1)) (text ++ (zeros ++ rest)) counted (ap (λ (n : ℕ). at + n) (sym (length-le 4 (length text + 1))))

  pub string-count : word_at m at ≡ length text + 1
  string-count = word-le m at (length text + 1) _ counted ∙ omega arith

  pub string-text : take (length text) (drop (at + 4) m) ≡ text
  string-text = ap (take (length text)) text-behind ∙ take-append_seam text (zeros ++ rest)

  pub string-part : text_at m at ≡ part_of (at + 4) (length text)
  unfolding text_at text_of zeros
  string-part =
      let l = length-drop at m in
      let h : at + 4 + (length text + 1) ≤ length m = omega (arith, simp (length-append, length-le, length-replicate) at (ap length counted)) in
      let z : length text + 1 - 1 ≡ length text = omega arith in
      rw (string-count, le-leb 1 (length text + 1) (omega arith), le-leb (length text + 1) 255 (omega arith), le-leb (at + 4 + (length text + 1)) (length m) h, z)
