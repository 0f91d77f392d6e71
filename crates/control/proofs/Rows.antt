-- Rows taken out of the tables of seats and devices: those behind move down. Assumes nothing.
use Rattle.std.proofs.Common.{◌≡◌, ℕ, suc, ◌+◌, ◌-◌, ◌*◌, ◌%◌, ◌^◌, ◌<◌, ◌≤◌, List, length, get_or, set, ap, ◌∙◌, arith, length-set, get_or-set_other, get_or-set_same}
use mathlib.Core.Logic.{dite}
use native.Mathlib.Decide.{dec_lt}
use Rattle.touches.specs.Touches.{touches_limit}
use Rattle.control.specs.Table.{tab, cut_at}
use Rattle.control.specs.Control.{devices_limit, pending_limit, seat_words, device_words, peer_place, gone_place, version_place, seat_place, device_place, seat_count, device_count, device_word, seat_at, connection_of}
use Rattle.control.specs.Sound.{Sound}
use Rattle.control.proofs.Tables.{tab_cut}
use Rattle.control.specs.Shift.{value_at, Shifted}
use Rattle.control.specs.Change.{Reconnected, Removed, with_seats}
use Rattle.control.proofs.Views.{core_ext, seat_ext, connection_with_lem, connection_ext, reconnected}

-- the seat in slot k, m seats behind it
module _ (c d : List ℕ) (ok : Sound c) (long : length d ≡ length c) (k m : ℕ) (left : k + 1 + m ≡ seat_count c)
    (s : Shifted (value_at 0 c) (value_at 0 d) (seat_place k) (seat_place k + seat_words) (seat_words * m)) where
  abbrev fewer : List ℕ
  fewer = set d 3 (seat_count c - 1)

  seat_off : (j : ℕ) → (j ≡ 3 → ⊥) → (seat_place k ≤ j → j < seat_place k + seat_words * m → ⊥) → get_or fewer j 0 ≡ get_or c j 0
  seat_off j n h = get_or-set_other d 3 j (seat_count c - 1) 0 n ∙ s.other j h

  seat_count_lem : seat_count fewer ≡ k + m
  seat_count_lem = let z : seat_count c - 1 ≡ k + m = omega arith in get_or-set_same d 3 (seat_count c - 1) 0 (omega (arith, ok.long)) ∙ z

  seat-behind : (j : ℕ) → k ≤ j → j < seat_count fewer → seat_at fewer j ≡ seat_at c (suc j)
  seat-behind j l h =
      seat_ext c fewer j (suc j)
      (λ f q.
      get_or-set_other d 3 (seat_place j + f) (seat_count c - 1) 0 (λ z. omega arith)
      ∙ s.here (seat_place j + f) (seat_place (suc j) + f) (omega arith) (omega (arith, seat_count_lem)) (omega arith))

  pub seat-removed : Reconnected c fewer (with_seats (cut_at k (connection_of c).seats) (connection_of c))
  unfolding connection_of
  seat-removed =
      reconnected c fewer (with_seats (cut_at k (connection_of c).seats) (connection_of c)) ok (length-set d 3 (seat_count c - 1) ∙ long ∙ ok.long)
      (omega (arith, seat_count_lem, ok.seats)) (λ j a b. seat_off j (λ z. omega arith) (λ p q. omega arith))
      (λ j a. seat_off j (λ z. omega arith) (λ p q. omega (arith, ok.seats)))
      (connection_with_lem c fewer (cut_at k (tab (seat_count c) (seat_at c))) (get_or c 1 0 % 2 ^ 32) (get_or c 2 0)
      (seat_off 0 (λ z. omega arith) (λ p q. omega arith)) (λ i l. seat_off (version_place i) (λ z. omega arith) (λ p q. omega arith))
      (seat_off peer_place (λ z. omega arith) (λ p q. omega arith)) (seat_off gone_place (λ z. omega arith) (λ p q. omega (arith, ok.seats)))
      (tab_cut (seat_count c) (seat_count fewer) k (seat_at c) (seat_at fewer) (omega (arith, seat_count_lem)) (omega arith)
      (λ j l. seat_ext c fewer j j (λ f q. seat_off (seat_place j + f) (λ z. omega arith) (λ p r. omega arith))) seat-behind)
      (ap (λ (x : ℕ). x % 2 ^ 32) (seat_off 1 (λ z. omega arith) (λ p q. omega arith))) (seat_off 2 (λ z. omega arith) (λ p q. omega arith)))

-- the device in slot k, m devices behind it
module _ (c d : List ℕ) (ok : Sound c) (long : length d ≡ length c) (k m : ℕ) (left : k + 1 + m ≡ device_count c)
    (s : Shifted (value_at 0 c) (value_at 0 d) (device_place k) (device_place k + device_words) (device_words * m)) where
  abbrev rest : List ℕ
  rest = set d 4 (device_count c - 1)

  few : device_count c ≤ devices_limit
  few = ok.devices

  off : (j : ℕ) → (j ≡ 4 → ⊥) → (device_place k ≤ j → j < device_place k + device_words * m → ⊥) → get_or rest j 0 ≡ get_or c j 0
  off j n h = get_or-set_other d 4 j (device_count c - 1) 0 n ∙ s.other j h

  count : device_count rest ≡ k + m
  count = let z : device_count c - 1 ≡ k + m = omega arith in get_or-set_same d 4 (device_count c - 1) 0 (omega (arith, ok.long)) ∙ z

  kept_word : (j f : ℕ) → f < device_words → (k ≤ j → j < k + m → ⊥) → device_word rest j f ≡ device_word c j f
  kept_word j f l h = off (device_place j + f) (λ z. omega arith) (λ p q. h (omega arith) (omega arith))

  moved_word : (j f : ℕ) → f < device_words → k ≤ j → j < k + m → device_word rest j f ≡ device_word c (suc j) f
  moved_word j f l a b =
      get_or-set_other d 4 (device_place j + f) (device_count c - 1) 0 (λ z. omega arith)
      ∙ s.here (device_place j + f) (device_place (suc j) + f) (omega arith) (omega arith) (omega arith)

  -- a bound on a word of every device's row
  bound : (f n : ℕ) → f < device_words → ((j : ℕ) → j < device_count c → device_word c j f ≤ n) → (j : ℕ) → j < device_count rest → device_word rest j f ≤ n
  bound f n l h j q =
      dite (dec_lt j k) (λ a. rw (kept_word j f l (λ p r. omega arith)) (h j (omega arith)))
      (λ a. rw (moved_word j f l (omega arith) (omega (arith, count))) (h (suc j) (omega (arith, count))))

  pub device-removed : Removed c rest k
  device-removed =
      record {
        connection =
            connection_ext c rest ok.seats (λ j l. off j (λ z. omega arith) (λ p q. omega arith))
            (λ j a l. off j (λ z. omega arith) (λ p q. omega arith));
        count = omega (arith, count);
        before = λ j l. core_ext c rest j j (λ f q. kept_word j f q (λ p r. omega arith));
        behind = λ j l h. core_ext c rest j (suc j) (λ f q. moved_word j f q l (omega (arith, count)));
        queue = record { head = off 5 (λ z. omega arith) (λ p q. omega arith); queued = off 6 (λ z. omega arith) (λ p q. omega arith) };
        sound =
            record {
              long = length-set d 4 (device_count c - 1) ∙ long ∙ ok.long;
              seats = omega (arith, ok.seats, off 3 (λ z. omega arith) (λ p q. omega arith));
              devices = omega (arith, count, few);
              head = omega (arith, ok.head, off 5 (λ z. omega arith) (λ p q. omega arith));
              queued = omega (arith, ok.queued, off 6 (λ z. omega arith) (λ p q. omega arith));
              pending = bound 4 pending_limit (omega arith) ok.pending;
              held = bound 5 touches_limit (omega arith) ok.held;
            };
      }
