-- Stores into the control words, as changes of what they mean. Assumes nothing.
use Rattle.std.proofs.Common.{◌≡◌, ℕ, ◌+◌, ◌%◌, ◌^◌, ◌<◌, ◌≤◌, Bool, true, false, cond, not, eqb, List, [], ◌∷◌, ◌++◌, length, get_or, take, set, sym, refl, ap, ◌∙◌, ap₂, arith, length-set, get_or-set_other, get_or-set_same}
use Rattle.eiproto.specs.Bits.{bit, common}
use Rattle.eiproto.proofs.Bits.{common_self}
use Rattle.model.specs.Session.{Interface}
use Rattle.model.specs.Edit.{connection_with, objects_with, interfaces_without}
use Rattle.touches.specs.Touches.{touches_limit}
use Rattle.control.specs.Table.{tab}
use Rattle.control.specs.Control.{seats_limit, devices_limit, pending_limit, queue_limit, seat_words, peer_place, gone_place, version_place, seat_place, device_place, seat_count, device_count, device_word, capabilities_at, listed_at, seat_at, connection_of, interfaces_on, core_at}
use Rattle.control.specs.Sound.{Sound}
use Rattle.control.proofs.Tables.{case_eq, tab_ext, tab_push}
use Rattle.control.specs.Change.{Reconnected, Amended, Appended, Requeued, new_core, with_pending, with_interfaces, with_seats, with_serial, with_next_id, with_peer, ended}
use Rattle.control.proofs.Views.{seat_ext, versions_ext, seats_ext, connection_with_lem, reconnected, amended, appended, requeued}
use Rattle.control.proofs.Unlisted.{clear, unlisted-bit, shared_bit}

-- the first n values of v now stand at i and after; no other word changed
pub record Wrote (c e : List ℕ) (i n : ℕ) (v : ℕ → ℕ) : Type 0 where
  pub here : (f : ℕ) → f < n → get_or e (i + f) 0 ≡ v f
  pub other : (j : ℕ) → (i ≤ j → j < i + n → ⊥) → get_or e j 0 ≡ get_or c j 0
  pub long : length e ≡ length c

pub wrote_none : (c : List ℕ) (i : ℕ) (v : ℕ → ℕ) → Wrote c c i 0 v
wrote_none c i v = record { here = λ f l. absurd (omega arith); other = λ j h. refl; long = refl }

-- one value more
pub wrote_one : {c e : List ℕ} {i n : ℕ} {v : ℕ → ℕ} (j a : ℕ) → j ≡ i + n → a ≡ v n → i + n < length c → Wrote c e i n v → Wrote c (set e j a) i (n + 1) v
wrote_one {c} {e} {i} {n} {v} j a is says room w =
    record {
      here =
          λ f l.
          case_eq f n
          (λ z.
          let at : i + f ≡ j = omega arith in
          ap (λ (x : ℕ). get_or (set e j a) x 0) at ∙ get_or-set_same e j a 0 (omega (arith, w.long)) ∙ says ∙ ap v (sym z))
          (λ z. get_or-set_other e j (i + f) a 0 (λ y. z (omega arith)) ∙ w.here f (omega arith));
      other = λ x h. get_or-set_other e j x a 0 (λ y. h (omega arith) (omega arith)) ∙ w.other x (λ p q. h p (omega arith));
      long = length-set e j a ∙ w.long;
    }

module _ (c : List ℕ) (ok : Sound c) where
  -- one word below 3 set
  module _ (p v : ℕ) (low : p < 3) where
    rest : (j : ℕ) → (j ≡ p → ⊥) → get_or (set c p v) j 0 ≡ get_or c j 0
    rest j n = get_or-set_other c p j v 0 n

    seats_same : tab (seat_count (set c p v)) (seat_at (set c p v)) ≡ (connection_of c).seats
    unfolding connection_of
    seats_same = seats_ext c (set c p v) ok.seats (rest 3 (λ z. omega arith)) (λ j a b. rest j (λ z. omega arith))

    word_set : (s n : ℕ) → (p ≡ 0 → ⊥) → get_or (set c p v) 1 0 % 2 ^ 32 ≡ s → get_or (set c p v) 2 0 ≡ n
        → Reconnected c (set c p v) (connection_with (connection_of c).seats s n (connection_of c))
    word_set s n not is at =
        reconnected c (set c p v) (connection_with (connection_of c).seats s n (connection_of c)) ok (length-set c p v ∙ ok.long)
        (omega (arith, ok.seats, rest 3 (λ z. omega arith))) (λ j a b. rest j (λ z. omega arith)) (λ j a. rest j (λ z. omega arith))
        (connection_with_lem c (set c p v) (connection_of c).seats s n (rest 0 (λ z. not (omega arith))) (λ i l. rest (version_place i) (λ z. omega arith)) (rest peer_place (λ z. omega arith)) (rest gone_place (λ z. omega arith)) seats_same is at)

  pub serial-set : (serial v : ℕ) → serial < 2 ^ 32 → v ≡ serial → Reconnected c (set c 1 v) (with_serial serial (connection_of c))
  unfolding connection_of
  serial-set serial v small says =
      let here : get_or (set c 1 v) 1 0 ≡ v = get_or-set_same c 1 v 0 (omega (arith, ok.long)) in
      word_set 1 v (omega arith) serial (connection_of c).next_id (λ z. omega arith) (omega arith) (rest 1 v (omega arith) 2 (λ z. omega arith))

  pub next-set : (id : ℕ) → Reconnected c (set c 2 id) (with_next_id id (connection_of c))
  unfolding connection_of
  next-set id =
      word_set 2 id (omega arith) (connection_of c).last_serial id (λ z. omega arith)
      (ap (λ (x : ℕ). x % 2 ^ 32) (rest 2 id (omega arith) 1 (λ z. omega arith))) (get_or-set_same c 2 id 0 (omega (arith, ok.long)))

  -- a word of what is known of the objects set
  module _ (p v : ℕ) (low : (j : ℕ) → j < peer_place → j ≡ p → ⊥) (aside : (j : ℕ) → version_place 0 ≤ j → j < seat_place seats_limit → j ≡ p → ⊥)
      (high : (j : ℕ) → device_place 0 ≤ j → j ≡ p → ⊥) where
    off : (j : ℕ) → (j ≡ p → ⊥) → get_or (set c p v) j 0 ≡ get_or c j 0
    off j n = get_or-set_other c p j v 0 n

    objects-set : (id : ℕ) (gone : Bool) → get_or (set c p v) peer_place 0 ≡ id → not (eqb (get_or (set c p v) gone_place 0) 0) ≡ gone
        → Reconnected c (set c p v) (objects_with id gone (connection_of c))
    unfolding connection_of objects_with
    objects-set id gone peer is =
        reconnected c (set c p v) (objects_with id gone (connection_of c)) ok (length-set c p v ∙ ok.long)
        (omega (arith, ok.seats, off 3 (low 3 (omega arith)))) (λ j a b. off j (low j b)) (λ j a. off j (high j a))
        (λ t. record {
          id = off 0 (low 0 (omega arith)) t;
          versions = versions_ext c (set c p v) (λ i l. off (version_place i) (aside (version_place i) (omega arith) (omega arith))) t;
          seats = seats_ext c (set c p v) ok.seats (off 3 (low 3 (omega arith))) (λ j a b. off j (aside j (omega arith) b)) t;
          last_serial = off 1 (low 1 (omega arith)) t % 2 ^ 32;
          next_id = off 2 (low 2 (omega arith)) t;
          last_peer_id = peer t;
          gone = is t;
        })

  pub peer_set : (id : ℕ) → Reconnected c (set c peer_place id) (with_peer id (connection_of c))
  unfolding connection_of
  peer_set id =
      objects-set peer_place id (λ j l z. omega arith) (λ j a b z. omega arith) (λ j a z. omega arith) id (connection_of c).gone
      (get_or-set_same c peer_place id 0 (omega (arith, ok.long))) (ap (λ (x : ℕ). not (eqb x 0)) (get_or-set_other c peer_place gone_place id 0 (λ z. omega arith)))

  pub gone-set : Reconnected c (set c gone_place 1) (ended (connection_of c))
  unfolding connection_of
  gone-set =
      objects-set gone_place 1 (λ j l z. omega arith) (λ j a b z. omega arith) (λ j a z. omega arith) (connection_of c).last_peer_id true
      (get_or-set_other c gone_place peer_place 1 0 (λ z. omega arith)) (ap (λ (x : ℕ). not (eqb x 0)) (get_or-set_same c gone_place 1 0 (omega (arith, ok.long))))

  pub queue-set : (head queued : ℕ) → head < queue_limit → queued ≤ queue_limit → Requeued c (set (set c 5 head) 6 queued) head queued
  queue-set head queued h q =
      let v : ℕ → ℕ = λ f. get_or (head ∷ queued ∷ []) f 0 in
      let w = wrote_one {v = v} 6 queued refl refl (omega (arith, ok.long)) (wrote_one 5 head refl refl (omega (arith, ok.long)) (wrote_none c 5 v)) in
      requeued c (set (set c 5 head) 6 queued) head queued ok (w.long ∙ ok.long) h q (λ j a b. w.other j (λ p r. omega arith)) (w.here 0 (omega arith))
      (w.here 1 (omega arith))

-- d has a seat's words behind the last seat
module _ (c d : List ℕ) (ok : Sound c) (id caps : ℕ) (room : seat_count c < seats_limit) (w : Wrote c d (seat_place (seat_count c)) seat_words (λ f. get_or (id ∷ caps ∷ []) f 0)) where
  abbrev seated : List ℕ
  seated = set d 3 (seat_count c + 1)

  seat_off : (j : ℕ) → (j ≡ 3 → ⊥) → (seat_place (seat_count c) ≤ j → j < seat_place (seat_count c) + seat_words → ⊥) → get_or seated j 0 ≡ get_or c j 0
  seat_off j n h = get_or-set_other d 3 j (seat_count c + 1) 0 n ∙ w.other j h

  seat_count_lem : seat_count seated ≡ seat_count c + 1
  seat_count_lem = get_or-set_same d 3 (seat_count c + 1) 0 (omega (arith, w.long, ok.long))

  seat-word : (f : ℕ) → f < seat_words → get_or seated (seat_place (seat_count c) + f) 0 ≡ get_or (id ∷ caps ∷ []) f 0
  seat-word f l = get_or-set_other d 3 (seat_place (seat_count c) + f) (seat_count c + 1) 0 (λ z. omega arith) ∙ w.here f l

  seat_here : seat_at seated (seat_count c) ≡ record { id = id; capabilities = caps % 128 }
  unfolding seat_at
  seat_here =
      let z : seat_place (seat_count c) ≡ seat_place (seat_count c) + 0 = omega arith in
      let a = ap (λ (x : ℕ). get_or seated x 0) z ∙ seat-word 0 (omega arith) in
      λ t. record { id = a t; capabilities = seat-word 1 (omega arith) t % 128 }

  pub seat_appended : Reconnected c seated (with_seats ((connection_of c).seats ++ (record { id = id; capabilities = caps % 128 } ∷ [])) (connection_of c))
  unfolding connection_of
  seat_appended =
      reconnected c seated (with_seats ((connection_of c).seats ++ (record { id = id; capabilities = caps % 128 } ∷ [])) (connection_of c)) ok
      (length-set d 3 (seat_count c + 1) ∙ w.long ∙ ok.long) (omega (arith, seat_count_lem))
      (λ j a b. seat_off j (λ z. omega arith) (λ p q. omega arith))
      (λ j a. seat_off j (λ z. omega arith) (λ p q. omega arith))
      (connection_with_lem c seated (tab (seat_count c) (seat_at c) ++ (record { id = id; capabilities = caps % 128 } ∷ [])) (get_or c 1 0 % 2 ^ 32) (get_or c 2 0)
      (seat_off 0 (λ z. omega arith) (λ p q. omega arith)) (λ i l. seat_off (version_place i) (λ z. omega arith) (λ p q. omega arith))
      (seat_off peer_place (λ z. omega arith) (λ p q. omega arith)) (seat_off gone_place (λ z. omega arith) (λ p q. omega arith))
      (tab_push (seat_count c) (seat_count seated) (seat_at c) (seat_at seated) (record { id = id; capabilities = caps % 128 }) seat_count_lem seat_here
      (λ j l. seat_ext c seated j j (λ f q. seat_off (seat_place j + f) (λ z. omega arith) (λ p r. omega arith))))
      (ap (λ (x : ℕ). x % 2 ^ 32) (seat_off 1 (λ z. omega arith) (λ p q. omega arith))) (seat_off 2 (λ z. omega arith) (λ p q. omega arith)))

-- the first six words of a new device's row
abbrev pub new_words : (id seat mask : ℕ) → ℕ → ℕ
new_words id seat mask f = get_or (id ∷ seat ∷ mask ∷ mask ∷ 0 ∷ 0 ∷ []) f 0

-- d has them behind the last device
module _ (c d : List ℕ) (ok : Sound c) (id seat mask : ℕ) (small : mask < 128) (room : device_count c < devices_limit)
    (w : Wrote c d (device_place (device_count c)) 6 (new_words id seat mask)) where
  abbrev more : List ℕ
  more = set d 4 (device_count c + 1)

  new_word : (f : ℕ) → f < 6 → device_word more (device_count c) f ≡ new_words id seat mask f
  new_word f l = get_or-set_other d 4 (device_place (device_count c) + f) (device_count c + 1) 0 (λ z. omega arith) ∙ w.here f l

  new_here : core_at more (device_count c) ≡ new_core id seat mask
  unfolding core_at new_core
  new_here =
      let known : device_word more (device_count c) 2 % 128 ≡ mask = omega (arith, new_word 2 (omega arith)) in
      let listed : listed_at more (device_count c) ≡ mask = ap₂ common known (new_word 3 (omega arith)) ∙ common_self mask (omega arith) in
      λ t. record {
        id = new_word 0 (omega arith) t;
        seat = new_word 1 (omega arith) t;
        interfaces = interfaces_on (new_word 0 (omega arith) t) (known t) (listed t);
        down_touch_ids = take (new_word 5 (omega arith) t) (tab touches_limit (λ j. device_word more (device_count c) (6 + j) % 2 ^ 32));
        pending = new_word 4 (omega arith) t;
      }

  pub device_appended : Appended c more (new_core id seat mask)
  device_appended =
      appended c more (new_core id seat mask) ok room (length-set d 4 (device_count c + 1) ∙ w.long ∙ ok.long)
      (get_or-set_same d 4 (device_count c + 1) 0 (omega (arith, w.long, ok.long)))
      (λ j n h. get_or-set_other d 4 j (device_count c + 1) 0 n ∙ w.other j (λ p q. h p (omega arith))) (omega (arith, new_word 4 (omega arith)))
      (omega (arith, new_word 5 (omega arith))) new_here

-- one word of a row set
module _ (c : List ℕ) (ok : Sound c) (k : ℕ) (in_table : k < device_count c) where
  pub pending-set : (n : ℕ) → n ≤ pending_limit → Amended c (set c (device_place k + 4) n) k (with_pending n (core_at c k))
  unfolding core_at
  pending-set n few =
      let e = set c (device_place k + 4) n in
      let off : (j : ℕ) → (j ≡ device_place k + 4 → ⊥) → get_or e j 0 ≡ get_or c j 0 = λ j h. get_or-set_other c (device_place k + 4) j n 0 h in
      let here : get_or e (device_place k + 4) 0 ≡ n = get_or-set_same c (device_place k + 4) n 0 (omega (arith, ok.long, ok.devices)) in
      let word : (f : ℕ) → (f ≡ 4 → ⊥) → device_word e k f ≡ device_word c k f = λ f h. off (device_place k + f) (λ z. h (omega arith)) in
      amended c e k (with_pending n (core_at c k)) ok (length-set c (device_place k + 4) n ∙ ok.long) (λ j h. off j (λ z. h (omega arith) (omega arith)))
      (omega arith) (omega (arith, ok.held k in_table, word 5 (λ z. omega arith)))
      (λ t. record {
        id = word 0 (λ z. omega arith) t;
        seat = word 1 (λ z. omega arith) t;
        interfaces = interfaces_on (word 0 (λ z. omega arith) t) (word 2 (λ z. omega arith) t % 128) (common (word 2 (λ z. omega arith) t % 128) (word 3 (λ z. omega arith) t));
        down_touch_ids =
            take (word 5 (λ z. omega arith) t)
            (tab_ext touches_limit (λ j. device_word e k (6 + j) % 2 ^ 32) (λ j. device_word c k (6 + j) % 2 ^ 32)
            (λ j l. ap (λ (x : ℕ). x % 2 ^ 32) (word (6 + j) (λ z. omega arith))) t);
        pending = here t;
      })

  pub unlisted-set : (b after : ℕ) → ((x : ℕ) → bit x after ≡ cond (eqb x b) false (bit x (device_word c k 3)))
      → Amended c (set c (device_place k + 3) after) k (with_interfaces (interfaces_without b (core_at c k).interfaces) (core_at c k))
  unfolding core_at
  unlisted-set b after h =
      let e = set c (device_place k + 3) after in
      let off : (j : ℕ) → (j ≡ device_place k + 3 → ⊥) → get_or e j 0 ≡ get_or c j 0 = λ j h. get_or-set_other c (device_place k + 3) j after 0 h in
      let here : get_or e (device_place k + 3) 0 ≡ after = get_or-set_same c (device_place k + 3) after 0 (omega (arith, ok.long, ok.devices)) in
      let word : (f : ℕ) → (f ≡ 3 → ⊥) → device_word e k f ≡ device_word c k f = λ f h. off (device_place k + f) (λ z. h (omega arith)) in
      let w0 = word 0 (λ z. omega arith) in
      let w2 = word 2 (λ z. omega arith) in
      amended c e k (with_interfaces (interfaces_without b (core_at c k).interfaces) (core_at c k)) ok (length-set c (device_place k + 3) after ∙ ok.long)
      (λ j h. off j (λ z. h (omega arith) (omega arith))) (omega (arith, ok.pending k in_table, word 4 (λ z. omega arith)))
      (omega (arith, ok.held k in_table, word 5 (λ z. omega arith)))
      (λ t. record {
        id = w0 t;
        seat = word 1 (λ z. omega arith) t;
        interfaces =
            ((λ s. interfaces_on (w0 s) (w2 s % 128) (common (w2 s % 128) (here s)))
            ∙ unlisted-bit (device_word c k 0) (capabilities_at c k) b (listed_at c k) (common (capabilities_at c k) after)
            (shared_bit (capabilities_at c k) (device_word c k 3) after b (omega arith) h)) t;
        down_touch_ids =
            take (word 5 (λ z. omega arith) t)
            (tab_ext touches_limit (λ j. device_word e k (6 + j) % 2 ^ 32) (λ j. device_word c k (6 + j) % 2 ^ 32)
            (λ j l. ap (λ (x : ℕ). x % 2 ^ 32) (word (6 + j) (λ z. omega arith))) t);
        pending = word 4 (λ z. omega arith) t;
      })

  -- a bit that was not there
  pub unlisted-kept : (b : ℕ) → bit b (device_word c k 3) ≡ false → Amended c c k (with_interfaces (interfaces_without b (core_at c k).interfaces) (core_at c k))
  unfolding core_at
  unlisted-kept b e =
      amended c c k (with_interfaces (interfaces_without b (core_at c k).interfaces) (core_at c k)) ok ok.long (λ j h. refl) (ok.pending k in_table)
      (ok.held k in_table)
      (ap (λ (is : List Interface). with_interfaces is (core_at c k))
      (unlisted-bit (device_word c k 0) (capabilities_at c k) b (listed_at c k) (listed_at c k)
      (shared_bit (capabilities_at c k) (device_word c k 3) (device_word c k 3) b (omega arith) (clear b (device_word c k 3) e))))
