-- The mask of the slots in use: a slot marked, and a slot that is not. Assumes nothing.
use Rattle.std.proofs.Common.{◌≡◌, ℕ, zero, suc, ◌+◌, ◌-◌, ◌*◌, ◌/◌, ◌%◌, ◌^◌, ◌≤◌, ◌<◌, Bool, true, false, cond, length, w32, refl, ap, ap₂, sym, ◌∙◌, inl, inr, arith, eqb-true, eq-eqb, ne_eqb, lt-ltb, le-ltb}
use Rattle.std.specs.Int.{trailing_ones}
use Rattle.std.specs.Int.Bits.{bit_or, or_add_and}
use Rattle.std.proofs.Math.Pow.{pow-lt, shr-shr}
use Rattle.std.proofs.lemmas.Bool.{cases_Bool}
use Rattle.std.proofs.lemmas.Nat.Bits.{and_pow, bit_at-trailing_ones}
use lib.Count.{ones, ones_step, ones-ones}
use lib.Dec.{ltb}
use mathlib.Core.Logic.{dite}
use native.Mathlib.Decide.{dec_lt}
use native.Mathlib.Nat.{pow-succ'}
use borrow.Author.Tests.{eqb-false}
use Rattle.requests.specs.Row.{texts_limit}
use Rattle.eiproto.specs.Bits.{bit, bits_of}
use Rattle.eiproto.proofs.Bits.{bits-length}
use Rattle.control.proofs.Tables.{case_eq}
use Rattle.control.proofs.Unlisted.{cleared}
use Rattle.texts.specs.declared.LiveTexts.{LiveTexts}
use Rattle.texts.specs.Texts.{texts_among, Counted}

half : (b m : ℕ) → m / 2 ^ suc b ≡ m / 2 / 2 ^ b
half b m = let z : suc b ≡ 1 + b = omega arith in ap (λ (x : ℕ). m / 2 ^ x) z ∙ sym (shr-shr m 1 b)

-- ---- a slot marked

-- a bit added to a mask of k bits that lacks it
record Added (b k m : ℕ) : Type 0 where
  here : (m + 2 ^ b) / 2 ^ b % 2 ≡ 1
  below : m + 2 ^ b < 2 ^ k
  more : ones (m + 2 ^ b) ≡ ones m + 1

added : (b k m : ℕ) → b < k → m < 2 ^ k → m / 2 ^ b % 2 ≡ 0 → Added b k m
added b zero m l h e = absurd (omega arith)
added zero (suc k) m l h e =
    let p = pow-succ' 2 k in
    let z : (m + 1) / 2 ≡ m / 2 = omega arith in
    record { here = omega arith; below = omega arith; more = omega (arith, ones_step m, ones_step (m + 1), ap ones z) }
added (suc b) (suc k) m l h e =
    let p = pow-succ' 2 k in
    let q = pow-succ' 2 b in
    let z : (m + 2 ^ suc b) / 2 ≡ m / 2 + 2 ^ b = omega arith in
    let a = added b k (m / 2) (omega arith) (omega arith) (omega (arith, half b m)) in
    record {
      here = ap (λ (x : ℕ). x % 2) (half b (m + 2 ^ suc b) ∙ ap (λ (x : ℕ). x / 2 ^ b) z) ∙ a.here;
      below = omega (arith, a.below);
      more = omega (arith, a.more, ones_step m, ones_step (m + 2 ^ suc b), ap ones z);
    }

-- ---- the pass over the slots

pub counted_none : (live : LiveTexts) (slots : ℕ → ℕ) → Counted live live 0 slots
unfolding texts_among
counted_none live slots =
    record { count = omega arith; most = omega arith; marked = λ j l. absurd (omega arith); kept = λ s e. e; few = omega arith }

-- no text
pub counted_past : (live : LiveTexts) (slot : ℕ) → texts_limit ≤ slot → Counted live live 1 (λ j. slot)
unfolding texts_among
counted_past live slot l =
    record {
      count = rw (le-ltb slot texts_limit (omega arith)) (omega arith);
      most = omega arith;
      marked = λ j q m. absurd (omega arith);
      kept = λ s e. e;
      few = omega arith;
    }

module _ (live : LiveTexts) (slot : ℕ) (l : slot < texts_limit) where
  one_more : (count : ℕ) → count ≡ live.count + 1 → count ≡ live.count + texts_among 1 (λ j. slot)
  unfolding texts_among
  one_more count e = rw (lt-ltb slot texts_limit l) (omega arith)

  -- a text in a slot that is marked
  pub counted_again : (count mask : ℕ) → count ≡ live.count + 1 → bit slot live.used ≡ true → mask ≡ live.used → Counted live (record { count = count; used = mask }) 1 (λ j. slot)
  counted_again count mask more e z =
      record {
        count = one_more count more;
        most = omega arith;
        marked = λ j q m. ap (bit slot) z ∙ e;
        kept = λ s f. ap (bit s) z ∙ f;
        few = omega (arith, ap (λ (x : ℕ). length (bits_of x)) z);
      }

  -- a text in a slot that is not
  pub counted_new : (count mask : ℕ) → count ≡ live.count + 1 → live.used < 2 ^ texts_limit → bit slot live.used ≡ false → mask ≡ live.used + 2 ^ slot
      → Counted live (record { count = count; used = mask }) 1 (λ j. slot)
  counted_new count mask more h e z =
      let clear : live.used / 2 ^ slot % 2 ≡ 0 = (let n = eqb-false (live.used / 2 ^ slot % 2) 1 e in omega (arith, n)) in
      let a = added slot texts_limit live.used l h clear in
      let has : bit slot mask ≡ true = ap (bit slot) z ∙ eq-eqb ((live.used + 2 ^ slot) / 2 ^ slot % 2) 1 a.here in
      let was : mask - 2 ^ slot ≡ live.used = omega arith in
      record {
        count = one_more count more;
        most = omega arith;
        marked = λ j q m. has;
        kept =
            λ s f.
            case_eq s slot (λ q. ap (λ (x : ℕ). bit x mask) q ∙ has)
            (λ n. ap (λ (t : Bool). cond t false (bit s mask)) (sym (ne_eqb s slot n)) ∙ sym (cleared slot mask has s) ∙ ap (bit s) was ∙ f);
        few =
            omega (
              arith,
              ap (λ (x : ℕ). length (bits_of x)) z,
              bits-length live.used (omega arith),
              bits-length (live.used + 2 ^ slot) (omega (arith, a.below)),
              a.more,
            );
      }

  -- a text in a slot: its bit is set in the mask, whether or not it was
  pub counted_text : (count : ℕ) → count ≡ live.count + 1 → live.used < 2 ^ texts_limit
      → Counted live (record { count = count; used = bit_or live.used (1 * 2 ^ slot % 2 ^ texts_limit) }) 1 (λ j. slot)
  counted_text count more h =
      let mask : ℕ = bit_or live.used (1 * 2 ^ slot % 2 ^ texts_limit) in
      let p = pow-lt l in
      let one : 1 * 2 ^ slot % 2 ^ texts_limit ≡ 2 ^ slot = omega arith in
      let both = or_add_and live.used (2 ^ slot) in
      let shared = and_pow live.used slot in
      let is : mask ≡ bit_or live.used (2 ^ slot) = ap (bit_or live.used) one in
      elim (cases_Bool (bit slot live.used)) [
        | inl e ↦
            let set : live.used / 2 ^ slot % 2 ≡ 1 = eqb-true (live.used / 2 ^ slot % 2) 1 e in
            counted_again count mask more e (is ∙ omega (arith, both, shared, ap (λ (x : ℕ). x * 2 ^ slot) set))
        | inr e ↦
            let clear : live.used / 2 ^ slot % 2 ≡ 0 = (let n = eqb-false (live.used / 2 ^ slot % 2) 1 e in omega (arith, n)) in
            counted_new count mask more h e (is ∙ omega (arith, both, shared, ap (λ (x : ℕ). x * 2 ^ slot) clear))
      ]

among_ext : (n : ℕ) (f g : ℕ → ℕ) → ((j : ℕ) → j < n → f j ≡ g j) → texts_among n f ≡ texts_among n g
unfolding texts_among
among_ext zero f g h = refl
among_ext (suc n) f g h =
    ap₂ (λ (x s : ℕ). x + cond (ltb s texts_limit) 1 0) (among_ext n f g (λ j l. h j (omega arith))) (h n (omega arith))

-- n slots, and m slots behind them
module _ (n : ℕ) {first next slots : ℕ → ℕ} (front : (j : ℕ) → j < n → slots j ≡ first j) where
  among-more : (m : ℕ) → ((j : ℕ) → j < m → slots (n + j) ≡ next j) → texts_among (n + m) slots ≡ texts_among n first + texts_among m next
  unfolding texts_among
  among-more zero behind = let z : n + 0 ≡ n = omega arith in rw z (among_ext n slots first front ∙ omega arith)
  among-more (suc m) behind =
      let z : n + suc m ≡ suc (n + m) = omega arith in
      rw z (rw (behind m (omega arith)) (omega (arith, among-more m (λ j l. behind j (omega arith)))))

  pub counted-more : {live mid later : LiveTexts} (m : ℕ) → ((j : ℕ) → j < m → slots (n + j) ≡ next j) → Counted live mid n first → Counted mid later m next
      → Counted live later (n + m) slots
  counted-more {live} {mid} {later} m behind a b =
      record {
        count = omega (arith, among-more m behind, a.count, b.count);
        most = omega (arith, a.most, b.most);
        marked =
            λ j q s.
            dite (dec_lt j n)
            (λ l. let e = front j l in rw e (b.kept (first j) (a.marked j l (rw e at s))))
            (λ l.
            let i : ℕ = j - n in
            let z : j ≡ n + i = omega arith in
            let e : slots j ≡ next i = ap slots z ∙ behind i (omega arith) in
            rw e (b.marked i (omega arith) (rw e at s)));
        kept = λ s e. b.kept s (a.kept s e);
        few = omega (arith, a.few, b.few);
      }

-- ---- a slot that is not marked

-- a mask with fewer slots than there are lacks one below `texts_limit`: the place of its lowest 0
pub free_is : (used : ℕ) → used < 2 ^ texts_limit → length (bits_of used) < texts_limit
    → (trailing_ones w32 used < texts_limit) × (bit (trailing_ones w32 used) used ≡ false)
free_is used h few =
    let some : used + 1 < 2 ^ texts_limit = case_eq used (2 ^ texts_limit - 1) (λ z. absurd (omega (arith, bits-length used (omega arith), ap ones z, ones-ones texts_limit))) (λ n. omega arith) in
    let t = bit_at-trailing_ones w32 used some in
    (t.0, ne_eqb (used / 2 ^ trailing_ones w32 used % 2) 1 (λ z. omega (arith, t.1)))
