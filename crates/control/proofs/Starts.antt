-- A fresh session's words, and its versions. Assumes nothing.
use Rattle.std.proofs.Common.{◌≡◌, ℕ, ◌+◌, ◌-◌, ◌%◌, ◌^◌, ◌<◌, ◌≤◌, not, eqb, List, [], ◌∷◌, length, get_or, set, ap, ◌∙◌, arith, length-set, get_or-set_other, get_or-set_same, ne_eqb}
use mathlib.Core.Option.{none, some}
use Rattle.model.specs.Session.{fresh}
use Rattle.control.specs.Table.{tab}
use Rattle.control.specs.Control.{peer_place, gone_place, version_place, control_length, version_in, versions_of, seat_at, connection_of}
use Rattle.control.specs.Sound.{Sound}
use Rattle.control.proofs.Tables.{tab_ext, tab-set}
use Rattle.control.specs.Change.{Reconnected, Fresh, with_versions}
use Rattle.control.proofs.Views.{seats_ext, reconnected}
use Rattle.control.proofs.Changes.{Wrote}

-- one more than the version
stored : (v : ℕ) → v < 2 ^ 32 → version_in (v + 1) ≡ some v
unfolding version_in
stored v h = rw (ne_eqb (v + 1) 0 (λ z. omega arith)) (let z : (v + 1 - 1) % 2 ^ 32 ≡ v = omega arith in ap (λ (x : ℕ). some x) z)

pub version-set : (c : List ℕ) → Sound c → (p v w : ℕ) → p < 12 → v < 2 ^ 32 → w ≡ v
    → Reconnected c (set c (version_place p) (w + 1)) (with_versions (set (connection_of c).versions p (some v)) (connection_of c))
unfolding connection_of versions_of
version-set c ok p v w h small is =
    let e = set c (version_place p) (w + 1) in
    let off : (j : ℕ) → (j ≡ version_place p → ⊥) → get_or e j 0 ≡ get_or c j 0 = λ j n. get_or-set_other c (version_place p) j (w + 1) 0 n in
    let here : get_or e (version_place p) 0 ≡ v + 1 = get_or-set_same c (version_place p) (w + 1) 0 (omega (arith, ok.long)) ∙ ap (λ (x : ℕ). x + 1) is in
    reconnected c e (with_versions (set (connection_of c).versions p (some v)) (connection_of c)) ok (length-set c (version_place p) (w + 1) ∙ ok.long)
    (omega (arith, ok.seats, off 3 (λ z. omega arith))) (λ j a b. off j (λ z. omega arith)) (λ j a. off j (λ z. omega arith))
    (λ t. record {
      id = off 0 (λ z. omega arith) t;
      versions =
          tab-set 12 p (λ i. version_in (get_or c (version_place i) 0)) (λ i. version_in (get_or e (version_place i) 0)) (some v) h (ap version_in here ∙ stored v small)
          (λ j l n. ap version_in (off (version_place j) (λ z. n (omega arith)))) t;
      seats = seats_ext c e ok.seats (off 3 (λ z. omega arith)) (λ j a b. off j (λ z. omega arith)) t;
      last_serial = off 1 (λ z. omega arith) t % 2 ^ 32;
      next_id = off 2 (λ z. omega arith) t;
      last_peer_id = off peer_place (λ z. omega arith) t;
      gone = not (eqb (off gone_place (λ z. omega arith) t) 0);
    })

-- three words written to a slice of zeros
module _ (c e : List ℕ) (long : length c ≡ control_length) (blank : (j : ℕ) → j < control_length → get_or c j 0 ≡ 0) (connection serial word next : ℕ)
    (small : serial < 2 ^ 32) (says : word ≡ serial) (w : Wrote c e 0 3 (λ f. get_or (connection ∷ word ∷ next ∷ []) f 0)) where
  zero_at : (j : ℕ) → 3 ≤ j → j < control_length → get_or e j 0 ≡ 0
  zero_at j a b = w.other j (λ p q. omega arith) ∙ blank j b

  pub fresh-words : Fresh e connection serial next
  unfolding connection_of versions_of fresh tab version_in
  fresh-words =
      record {
        connection_is =
            λ t. record {
              id = w.here 0 (omega arith) t;
              versions =
                  tab_ext 12 (λ i. version_in (get_or e (version_place i) 0)) (λ i. none) (λ i l. ap version_in (zero_at (version_place i) (omega arith) (omega arith))) t;
              seats = tab (zero_at 3 (omega arith) (omega arith) t) (seat_at e);
              last_serial = (let z : get_or e 1 0 % 2 ^ 32 ≡ serial = omega (arith, w.here 1 (omega arith)) in z) t;
              next_id = w.here 2 (omega arith) t;
              last_peer_id = zero_at peer_place (omega arith) (omega arith) t;
              gone = not (eqb (zero_at gone_place (omega arith) (omega arith) t) 0);
            };
        devices = zero_at 4 (omega arith) (omega arith);
        queued = zero_at 6 (omega arith) (omega arith);
        sound =
            record {
              long = w.long ∙ long;
              seats = omega (arith, zero_at 3 (omega arith) (omega arith));
              devices = omega (arith, zero_at 4 (omega arith) (omega arith));
              head = omega (arith, zero_at 5 (omega arith) (omega arith));
              queued = omega (arith, zero_at 6 (omega arith) (omega arith));
              pending = λ k l. absurd (omega (arith, zero_at 4 (omega arith) (omega arith)));
              held = λ k l. absurd (omega (arith, zero_at 4 (omega arith) (omega arith)));
            };
      }
