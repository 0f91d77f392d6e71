-- The views depend on their own words only, and each kind of change on few. Assumes nothing.
use Rattle.std.proofs.Common.{◌≡◌, ℕ, ◌+◌, ◌%◌, ◌^◌, ◌<◌, ◌≤◌, not, eqb, List, length, get_or, take, ap, ◌∙◌, arith, below_more}
use Rattle.eiproto.specs.Bits.{common}
use Rattle.model.specs.Session.{Seat, Connection}
use Rattle.model.specs.Edit.{connection_with}
use Rattle.touches.specs.Touches.{touches_limit}
use Rattle.control.specs.Table.{tab}
use Rattle.control.specs.Control.{seats_limit, devices_limit, pending_limit, queue_limit, seat_words, device_words, peer_place, gone_place, version_place, seat_place, device_place, control_length, seat_count, device_count, queue_head, queue_length, device_word, pending_at, held_at, version_in, seat_at, versions_of, connection_of, interfaces_on, Core, core_at}
use Rattle.control.specs.Sound.{Sound}
use Rattle.control.proofs.Tables.{case_eq, tab_ext, tab_same}
use Rattle.control.specs.Change.{Reconnected, Amended, Appended, Requeued}

module _ (c e : List ℕ) where
  -- row i of e is row j of c
  pub core_ext : (i j : ℕ) → ((f : ℕ) → f < device_words → device_word e i f ≡ device_word c j f) → core_at e i ≡ core_at c j
  unfolding core_at
  core_ext i j h =
      λ t. record {
        id = h 0 (omega arith) t;
        seat = h 1 (omega arith) t;
        interfaces = interfaces_on (h 0 (omega arith) t) (h 2 (omega arith) t % 128) (common (h 2 (omega arith) t % 128) (h 3 (omega arith) t));
        down_touch_ids =
            take (h 5 (omega arith) t)
            (tab_ext touches_limit (λ k. device_word e i (6 + k) % 2 ^ 32) (λ k. device_word c j (6 + k) % 2 ^ 32)
            (λ k l. ap (λ (x : ℕ). x % 2 ^ 32) (h (6 + k) (omega arith))) t);
        pending = h 4 (omega arith) t;
      }

  pub seat_ext : (i j : ℕ) → ((f : ℕ) → f < seat_words → get_or e (seat_place i + f) 0 ≡ get_or c (seat_place j + f) 0) → seat_at e i ≡ seat_at c j
  unfolding seat_at
  seat_ext i j h =
      let a : seat_place i ≡ seat_place i + 0 = omega arith in
      let b : seat_place j + 0 ≡ seat_place j = omega arith in
      let id = ap (λ (x : ℕ). get_or e x 0) a ∙ h 0 (omega arith) ∙ ap (λ (x : ℕ). get_or c x 0) b in
      λ t. record { id = id t; capabilities = h 1 (omega arith) t % 128 }

  pub versions_ext : ((i : ℕ) → i < 12 → get_or e (version_place i) 0 ≡ get_or c (version_place i) 0) → versions_of e ≡ versions_of c
  unfolding versions_of
  versions_ext h = tab_ext 12 (λ i. version_in (get_or e (version_place i) 0)) (λ i. version_in (get_or c (version_place i) 0)) (λ i l. ap version_in (h i l))

  pub seats_ext : seat_count c ≤ seats_limit → seat_count e ≡ seat_count c → ((j : ℕ) → seat_place 0 ≤ j → j < seat_place seats_limit → get_or e j 0 ≡ get_or c j 0) → tab (seat_count e) (seat_at e) ≡ tab (seat_count c) (seat_at c)
  seats_ext l n h =
      tab_same (seat_count e) (seat_count c) (seat_at e) (seat_at c) n (λ j q. seat_ext j j (λ f r. h (seat_place j + f) (omega arith) (omega arith)))

  -- the id, the versions and what is known of the objects as they were
  pub connection_with_lem : (ss : List Seat) (s n : ℕ) → get_or e 0 0 ≡ get_or c 0 0 → ((i : ℕ) → i < 12 → get_or e (version_place i) 0 ≡ get_or c (version_place i) 0)
      → get_or e peer_place 0 ≡ get_or c peer_place 0 → get_or e gone_place 0 ≡ get_or c gone_place 0
      → tab (seat_count e) (seat_at e) ≡ ss → get_or e 1 0 % 2 ^ 32 ≡ s → get_or e 2 0 ≡ n → connection_of e ≡ connection_with ss s n (connection_of c)
  unfolding connection_of connection_with
  connection_with_lem ss s n i v p g a b d =
      λ t. record { id = i t; versions = versions_ext v t; seats = a t; last_serial = b t; next_id = d t; last_peer_id = p t; gone = not (eqb (g t) 0) }

  pub connection_ext : seat_count c ≤ seats_limit → ((j : ℕ) → j < 4 → get_or e j 0 ≡ get_or c j 0) → ((j : ℕ) → peer_place ≤ j → j < device_place 0 → get_or e j 0 ≡ get_or c j 0)
      → connection_of e ≡ connection_of c
  unfolding connection_of
  connection_ext l h r =
      λ t. record {
        id = h 0 (omega arith) t;
        versions = versions_ext (λ i q. r (version_place i) (omega arith) (omega arith)) t;
        seats = seats_ext l (h 3 (omega arith)) (λ j p q. r j (omega arith) (omega arith)) t;
        last_serial = h 1 (omega arith) t % 2 ^ 32;
        next_id = h 2 (omega arith) t;
        last_peer_id = r peer_place (omega arith) (omega arith) t;
        gone = not (eqb (r gone_place (omega arith) (omega arith) t) 0);
      }

  -- the words of the devices as they were, their count and the queue's place
  pub reconnected : (to : Connection) → Sound c → length e ≡ control_length → seat_count e ≤ seats_limit → ((j : ℕ) → 4 ≤ j → j < peer_place → get_or e j 0 ≡ get_or c j 0)
      → ((j : ℕ) → device_place 0 ≤ j → get_or e j 0 ≡ get_or c j 0) → connection_of e ≡ to → Reconnected c e to
  reconnected to ok long few low high is =
      record {
        connection = is;
        devices = record { count = low 4 (omega arith) (omega arith); core = λ k. core_ext k k (λ f l. high (device_place k + f) (omega arith)) };
        queue = record { head = low 5 (omega arith) (omega arith); queued = low 6 (omega arith) (omega arith) };
        sound =
            record {
              long = long;
              seats = few;
              devices = omega (arith, ok.devices, low 4 (omega arith) (omega arith));
              head = omega (arith, ok.head, low 5 (omega arith) (omega arith));
              queued = omega (arith, ok.queued, low 6 (omega arith) (omega arith));
              pending = λ k l. rw (high (device_place k + 4) (omega arith)) (ok.pending k (omega (arith, low 4 (omega arith) (omega arith))));
              held = λ k l. rw (high (device_place k + 5) (omega arith)) (ok.held k (omega (arith, low 4 (omega arith) (omega arith))));
            };
      }

  -- words of row k changed alone
  pub amended : (k : ℕ) (to : Core) → Sound c → length e ≡ control_length → ((j : ℕ) → (device_place k ≤ j → j < device_place k + device_words → ⊥) → get_or e j 0 ≡ get_or c j 0)
      → pending_at e k ≤ pending_limit → held_at e k ≤ touches_limit → core_at e k ≡ to → Amended c e k to
  amended k to ok long off p h is =
      record {
        connection = connection_ext ok.seats (λ j l. off j (λ a b. omega arith)) (λ j a l. off j (λ a b. omega arith));
        count = off 4 (λ a b. omega arith);
        here = is;
        other = λ j n. core_ext j j (λ f l. off (device_place j + f) (λ a b. n (omega arith)));
        queue = record { head = off 5 (λ a b. omega arith); queued = off 6 (λ a b. omega arith) };
        sound =
            record {
              long = long;
              seats = omega (arith, ok.seats, off 3 (λ a b. omega arith));
              devices = omega (arith, ok.devices, off 4 (λ a b. omega arith));
              head = omega (arith, ok.head, off 5 (λ a b. omega arith));
              queued = omega (arith, ok.queued, off 6 (λ a b. omega arith));
              pending =
                  λ j l.
                  case_eq j k (λ e. rw e p)
                  (λ n. rw (off (device_place j + 4) (λ a b. n (omega arith))) (ok.pending j (omega (arith, off 4 (λ a b. omega arith)))));
              held =
                  λ j l.
                  case_eq j k (λ e. rw e h)
                  (λ n. rw (off (device_place j + 5) (λ a b. n (omega arith))) (ok.held j (omega (arith, off 4 (λ a b. omega arith)))));
            };
      }

  -- the row behind the last changed, and their count
  pub appended : (new : Core) → Sound c → device_count c < devices_limit → length e ≡ control_length → device_count e ≡ device_count c + 1
      → ((j : ℕ) → (j ≡ 4 → ⊥) → (device_place (device_count c) ≤ j → j < device_place (device_count c) + device_words → ⊥) → get_or e j 0 ≡ get_or c j 0)
      → pending_at e (device_count c) ≤ pending_limit → held_at e (device_count c) ≤ touches_limit → core_at e (device_count c) ≡ new → Appended c e new
  appended new ok room long n off p h is =
      record {
        connection = connection_ext ok.seats (λ j l. off j (λ z. omega arith) (λ a b. omega arith)) (λ j a l. off j (λ z. omega arith) (λ a b. omega arith));
        count = n;
        here = is;
        other = λ j q. core_ext j j (λ f l. off (device_place j + f) (λ z. omega arith) (λ a b. q (omega arith)));
        queue = record { head = off 5 (λ z. omega arith) (λ a b. omega arith); queued = off 6 (λ z. omega arith) (λ a b. omega arith) };
        sound =
            record {
              long = long;
              seats = omega (arith, ok.seats, off 3 (λ z. omega arith) (λ a b. omega arith));
              devices = omega arith;
              head = omega (arith, ok.head, off 5 (λ z. omega arith) (λ a b. omega arith));
              queued = omega (arith, ok.queued, off 6 (λ z. omega arith) (λ a b. omega arith));
              pending =
                  λ j l.
                  below_more (λ (i : ℕ). pending_at e i ≤ pending_limit) (device_count c)
                  (λ i q. rw (off (device_place i + 4) (λ z. omega arith) (λ a b. omega arith)) (ok.pending i q)) p j (omega arith);
              held =
                  λ j l.
                  below_more (λ (i : ℕ). held_at e i ≤ touches_limit) (device_count c)
                  (λ i q. rw (off (device_place i + 5) (λ z. omega arith) (λ a b. omega arith)) (ok.held i q)) h j (omega arith);
            };
      }

  -- words 5 and 6 changed alone
  pub requeued : (head queued : ℕ) → Sound c → length e ≡ control_length → head < queue_limit → queued ≤ queue_limit
      → ((j : ℕ) → (j ≡ 5 → ⊥) → (j ≡ 6 → ⊥) → get_or e j 0 ≡ get_or c j 0) → queue_head e ≡ head → queue_length e ≡ queued → Requeued c e head queued
  requeued head queued ok long a b off h q =
      record {
        connection = connection_ext ok.seats (λ j l. off j (λ z. omega arith) (λ z. omega arith)) (λ j a l. off j (λ z. omega arith) (λ z. omega arith));
        devices =
            record {
              count = off 4 (λ z. omega arith) (λ z. omega arith);
              core = λ k. core_ext k k (λ f l. off (device_place k + f) (λ z. omega arith) (λ z. omega arith));
            };
        head_is = h;
        queued_is = q;
        sound =
            record {
              long = long;
              seats = omega (arith, ok.seats, off 3 (λ z. omega arith) (λ z. omega arith));
              devices = omega (arith, ok.devices, off 4 (λ z. omega arith) (λ z. omega arith));
              head = omega arith;
              queued = omega arith;
              pending = λ k l. rw (off (device_place k + 4) (λ z. omega arith) (λ z. omega arith)) (ok.pending k (omega (arith, off 4 (λ z. omega arith) (λ z. omega arith))));
              held = λ k l. rw (off (device_place k + 5) (λ z. omega arith) (λ z. omega arith)) (ok.held k (omega (arith, off 4 (λ z. omega arith) (λ z. omega arith))));
            };
      }
