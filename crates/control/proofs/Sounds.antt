-- Soundness as a test and as bounds. Assumes nothing.
use Rattle.std.proofs.Common.{◌≡◌, ℕ, zero, suc, ◌<◌, ◌≤◌, Bool, true, false, ◌&&◌, eqb, ltb, leb, List, length, refl, sym, ap, ◌∙◌, arith, ltb-true, lt-ltb, eq-eqb, eqb-true, le-leb, leb-true}
use mathlib.Core.Bool.{false≢true}
use borrow.Author.Tests.{lt-leb}
use Rattle.touches.specs.Touches.{touches_limit}
use Rattle.control.specs.Control.{seats_limit, devices_limit, pending_limit, queue_limit, control_length, seat_count, device_count, queue_head, queue_length, pending_at, held_at, core_at}
use Rattle.control.specs.Sound.{row_sound, rows_sound, is_sound, Sound}
use Rattle.control.proofs.Tables.{case_eq}

both : (a b : Bool) → a && b ≡ true → (a ≡ true) × (b ≡ true)
both true b e = (refl, e)
both false b e = absurd (false≢true e)

and-false : (a : Bool) → a && false ≡ false
and-false true = refl
and-false false = refl

join : (a b : Bool) → a ≡ true → b ≡ true → a && b ≡ true
join a b e f = rw (e, f)

rows_at : (c : List ℕ) (n : ℕ) → rows_sound c n ≡ true → (k : ℕ) → k < n → row_sound c k ≡ true
unfolding rows_sound
rows_at c zero e k h = absurd (omega arith)
rows_at c (suc n) e k h =
    let p = both (rows_sound c n) (row_sound c n) e in case_eq k n (λ z. ap (row_sound c) z ∙ p.1) (λ z. rows_at c n p.0 k (omega arith))

pub rows_all : (c : List ℕ) (n : ℕ) → ((k : ℕ) → k < n → row_sound c k ≡ true) → rows_sound c n ≡ true
unfolding rows_sound
rows_all c zero h = refl
rows_all c (suc n) h = join (rows_sound c n) (row_sound c n) (rows_all c n (λ k l. h k (omega arith))) (h n (omega arith))

row_bounds : (c : List ℕ) (k : ℕ) → row_sound c k ≡ true → (pending_at c k ≤ pending_limit) × (held_at c k ≤ touches_limit)
unfolding row_sound
row_bounds c k e =
    let p = both (leb (pending_at c k) pending_limit) (leb (held_at c k) touches_limit) e in (leb-true (pending_at c k) pending_limit p.0, leb-true (held_at c k) touches_limit p.1)

pub row-true : (c : List ℕ) (k : ℕ) → pending_at c k ≤ pending_limit → held_at c k ≤ touches_limit → row_sound c k ≡ true
unfolding row_sound
row-true c k p h = join (leb (pending_at c k) pending_limit) (leb (held_at c k) touches_limit) (le-leb (pending_at c k) pending_limit p) (le-leb (held_at c k) touches_limit h)

-- the two ways through the test
pub row-second : (c : List ℕ) (k : ℕ) → pending_at c k ≤ pending_limit → leb (held_at c k) touches_limit ≡ row_sound c k
unfolding row_sound
row-second c k h = rw (le-leb (pending_at c k) pending_limit h)

pub row_first : (c : List ℕ) (k : ℕ) → pending_limit < pending_at c k → leb (pending_at c k) pending_limit ≡ row_sound c k
unfolding row_sound
row_first c k h = rw (lt-leb (pending_at c k) pending_limit h)

pub rows_unsound : (c : List ℕ) (n k : ℕ) → k < n → row_sound c k ≡ false → rows_sound c n ≡ false
unfolding rows_sound
rows_unsound c zero k l e = absurd (omega arith)
rows_unsound c (suc n) k l e =
    case_eq k n (λ z. ap (λ (b : Bool). rows_sound c n && b) (ap (row_sound c) (sym z) ∙ e) ∙ and-false (rows_sound c n))
    (λ z. ap (λ (b : Bool). b && row_sound c n) (rows_unsound c n k (omega arith) e))

module _ (c : List ℕ) where
  -- where all else is within its limits, the rows decide
  pub rows-decide : length c ≡ control_length → seat_count c ≤ seats_limit → device_count c ≤ devices_limit → queue_head c < queue_limit → queue_length c ≤ queue_limit
      → rows_sound c (device_count c) ≡ is_sound c
  unfolding is_sound
  rows-decide l s d h q =
      rw (eq-eqb (length c) control_length l, le-leb (seat_count c) seats_limit s, le-leb (device_count c) devices_limit d, lt-ltb (queue_head c) queue_limit h, le-leb (queue_length c) queue_limit q)

  pub sound_bounds : is_sound c ≡ true → Sound c
  unfolding is_sound
  sound_bounds e =
      let long = both (eqb (length c) control_length) _ e in
      let seats = both (leb (seat_count c) seats_limit) _ long.1 in
      let devices = both (leb (device_count c) devices_limit) _ seats.1 in
      let head = both (ltb (queue_head c) queue_limit) _ devices.1 in
      let queued = both (leb (queue_length c) queue_limit) _ head.1 in
      record {
        long = eqb-true (length c) control_length long.0;
        seats = leb-true (seat_count c) seats_limit seats.0;
        devices = leb-true (device_count c) devices_limit devices.0;
        head = ltb-true (queue_head c) queue_limit head.0;
        queued = leb-true (queue_length c) queue_limit queued.0;
        pending = λ k l. (row_bounds c k (rows_at c (device_count c) queued.1 k l)).0;
        held = λ k l. (row_bounds c k (rows_at c (device_count c) queued.1 k l)).1;
      }

  pub bounds_sound : Sound c → is_sound c ≡ true
  unfolding is_sound
  bounds_sound s =
      join _ _ (eq-eqb (length c) control_length s.long)
      (join _ _ (le-leb (seat_count c) seats_limit s.seats)
      (join _ _ (le-leb (device_count c) devices_limit s.devices)
      (join _ _ (lt-ltb (queue_head c) queue_limit s.head)
      (join _ _ (le-leb (queue_length c) queue_limit s.queued) (rows_all c (device_count c) (λ k l. row-true c k (s.pending k l) (s.held k l)))))))

  pub unsound : (Sound c → ⊥) → is_sound c ≡ false
  unsound h = go (is_sound c) refl
    where
      go : (t : Bool) → is_sound c ≡ t → t ≡ false
      go true e = absurd (h (sound_bounds e))
      go false e = refl

pub pending_bound : {c : List ℕ} → Sound c → (k : ℕ) → k < device_count c → (core_at c k).pending ≤ pending_limit
unfolding core_at
pending_bound ok k l = ok.pending k l
