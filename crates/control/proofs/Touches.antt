-- A row's held touches, read and written. Assumes nothing.
use Rattle.std.proofs.Common.{◌≡◌, ℕ, ◌+◌, ◌%◌, ◌^◌, ◌<◌, ◌≤◌, Bool, ◌||◌, eqb, List, [], ◌∷◌, map, length, get_or, take, drop, set, sym, refl, ap, ◌∙◌, ap₂, mod-eq_of_lt, arith, length-set, length-take-le, length-drop, get_or-set_other, get_or-take, get_or-set_same, ext_get_or, eq-eqb, ne_eqb}
use Rattle.std.specs.List.{list_any}
use Rattle.std.proofs.lemmas.List.{get_or-drop, get_or-map, length-map}
use Rattle.eiproto.specs.Bits.{common}
use Rattle.touches.specs.declared.DownTouchIds.{DownTouchIds}
use Rattle.touches.specs.Touches.{touches_limit, held, member}
use Rattle.touches.specs.Changes.{Holds}
use Rattle.control.specs.Table.{tab}
use Rattle.control.specs.Control.{device_place, device_count, device_word, held_at, interfaces_on, core_at, touches_at}
use Rattle.control.specs.Sound.{Sound}
use Rattle.control.proofs.Tables.{case_eq, tab_at, tab-length}
use Rattle.control.specs.Change.{Amended, with_touches}
use Rattle.control.proofs.Views.{amended}
use Rattle.control.proofs.Changes.{Wrote}

-- ---- whether a number is among the low halves of words

member_low : (x : ℕ) (ws : List ℕ) → member x (map (λ w. w % 2 ^ 32) ws) ≡ list_any (λ w. eqb (w % 2 ^ 32) x) ws
unfolding member
member_low x [] = refl
member_low x (w ∷ ws) =
    let y : ℕ = w % 2 ^ 32 in
    ap₂ (λ (s t : Bool). s || t) (case_eq x y (λ e. eq-eqb x y e ∙ sym (eq-eqb y x (sym e))) (λ n. ne_eqb x y n ∙ sym (ne_eqb y x (λ e. n (sym e)))))
    (member_low x ws)

-- ---- the words of a row

-- the first n of sixteen values, where they are those of a table
held_is : (xs : List ℕ) (n : ℕ) (f : ℕ → ℕ) → n ≤ touches_limit → length xs ≡ touches_limit → ((i : ℕ) → i < n → get_or xs i 0 ≡ f i) → take n (tab touches_limit f) ≡ take n xs
held_is xs n f few l h =
    let long : length (take n (tab touches_limit f)) ≡ n = length-take-le n (tab touches_limit f) (omega (arith, tab-length touches_limit f)) in
    ext_get_or 0 (take n (tab touches_limit f)) (take n xs) (long ∙ sym (length-take-le n xs (omega arith)))
    (λ i q.
    let below : i < n = omega (arith, long) in
    get_or-take n (tab touches_limit f) i 0 below ∙ tab_at touches_limit f i 0 (omega arith) ∙ sym (get_or-take n xs i 0 below ∙ h i below))

module _ (c : List ℕ) (ok : Sound c) (k : ℕ) (in_table : k < device_count c) where
  pub touches-length : length (touches_at c k) ≡ held_at c k
  unfolding core_at
  touches-length =
      let f : ℕ → ℕ = λ j. device_word c k (6 + j) % 2 ^ 32 in
      length-take-le (held_at c k) (tab touches_limit f) (omega (arith, tab-length touches_limit f, ok.held k in_table))

  pub touch_at : (j : ℕ) → j < held_at c k → get_or (touches_at c k) j 0 ≡ device_word c k (6 + j) % 2 ^ 32
  unfolding core_at
  touch_at j l =
      let f : ℕ → ℕ = λ i. device_word c k (6 + i) % 2 ^ 32 in
      get_or-take (held_at c k) (tab touches_limit f) j 0 l ∙ tab_at touches_limit f j 0 (omega (arith, ok.held k in_table))

  pub down-member : (x : ℕ) → member x (touches_at c k) ≡ list_any (λ w. eqb (w % 2 ^ 32) x) (take (held_at c k) (drop (device_place k + 6) c))
  down-member x =
      let ws : List ℕ = take (held_at c k) (drop (device_place k + 6) c) in
      let room : device_place k + 6 + held_at c k ≤ length c = omega (arith, ok.long, ok.devices, ok.held k in_table) in
      let long : length ws ≡ held_at c k = length-take-le (held_at c k) (drop (device_place k + 6) c) (omega (arith, length-drop (device_place k + 6) c)) in
      let words : touches_at c k ≡ map (λ w. w % 2 ^ 32) ws =
      ext_get_or 0 (touches_at c k) (map (λ w. w % 2 ^ 32) ws) (touches-length ∙ sym (length-map ws (λ w. w % 2 ^ 32) ∙ long))
      (λ i l.
      let below : i < held_at c k = omega (arith, touches-length) in
      let z : device_place k + 6 + i ≡ device_place k + (6 + i) = omega arith in
      touch_at i below
      ∙ sym (get_or-map (λ w. w % 2 ^ 32) ws i 0 0 (omega arith)
      ∙ ap (λ (y : ℕ). y % 2 ^ 32) (get_or-take (held_at c k) (drop (device_place k + 6) c) i 0 below ∙ get_or-drop (device_place k + 6) c i 0 ∙ ap (λ (y : ℕ). get_or c y 0) z)))
      in
      ap (member x) words ∙ member_low x ws

  pub touches-read : (ids : List ℕ) → length ids ≡ touches_limit → ((i : ℕ) → i < held_at c k → get_or ids i 0 ≡ device_word c k (6 + i) % 2 ^ 32)
      → Holds (core_at c k).down_touch_ids (record { ids = ids; count = held_at c k })
  unfolding core_at
  touches-read ids l h =
      let few : held_at c k ≤ touches_limit = ok.held k in_table in
      let e = held_is ids (held_at c k) (λ i. device_word c k (6 + i) % 2 ^ 32) few l h in
      record { ids_are = sym e; counted = sym (ap length e ∙ length-take-le (held_at c k) ids (omega arith)); within = few }

  module _ (e : List ℕ) (t : DownTouchIds) (few : t.count ≤ touches_limit) (l : length t.ids ≡ touches_limit) (small : (i : ℕ) → i < t.count → get_or t.ids i 0 < 2 ^ 32)
      (w : Wrote (set c (device_place k + 5) t.count) e (device_place k + 6) t.count (λ i. get_or t.ids i 0)) where
    off : (j : ℕ) → (device_place k + 5 ≤ j → j < device_place k + (6 + touches_limit) → ⊥) → get_or e j 0 ≡ get_or c j 0
    off j h = w.other j (λ a b. h (omega arith) (omega arith)) ∙ get_or-set_other c (device_place k + 5) j t.count 0 (λ z. h (omega arith) (omega arith))

    word : (f : ℕ) → f < 5 → device_word e k f ≡ device_word c k f
    word f q = off (device_place k + f) (λ a b. omega arith)

    count : device_word e k 5 ≡ t.count
    count = w.other (device_place k + 5) (λ a b. omega arith) ∙ get_or-set_same c (device_place k + 5) t.count 0 (omega (arith, ok.long, ok.devices))

    id_at : (i : ℕ) → i < t.count → get_or t.ids i 0 ≡ device_word e k (6 + i) % 2 ^ 32
    id_at i q =
        let z : device_place k + 6 + i ≡ device_place k + (6 + i) = omega arith in
        let y : device_word e k (6 + i) ≡ get_or t.ids i 0 = ap (λ (x : ℕ). get_or e x 0) (sym z) ∙ w.here i q in
        sym (ap (λ (x : ℕ). x % 2 ^ 32) y ∙ mod-eq_of_lt (small i q))

    pub touches-set : Amended c e k (with_touches (held t) (core_at c k))
    unfolding core_at
    touches-set =
        amended c e k (with_touches (held t) (core_at c k)) ok (w.long ∙ length-set c (device_place k + 5) t.count ∙ ok.long)
        (λ j h. off j (λ a b. h (omega arith) (omega arith))) (omega (arith, ok.pending k in_table, word 4 (omega arith))) (omega (arith, count))
        (λ s. record {
          id = word 0 (omega arith) s;
          seat = word 1 (omega arith) s;
          interfaces = interfaces_on (word 0 (omega arith) s) (word 2 (omega arith) s % 128) (common (word 2 (omega arith) s % 128) (word 3 (omega arith) s));
          down_touch_ids =
              (ap (λ (n : ℕ). take n (tab touches_limit (λ i. device_word e k (6 + i) % 2 ^ 32))) count
              ∙ held_is t.ids t.count (λ i. device_word e k (6 + i) % 2 ^ 32) few l id_at) s;
          pending = word 4 (omega arith) s;
        })
