-- A device taken out: its rows are those of the slots behind it, moved down, and the queue's rows stay. Assumes nothing.
use Prim.Native.Nat.{ℕ, suc, ◌+◌, ◌-◌, ◌*◌, ◌≤◌, ◌<◌}
use mathlib.Core.Path.{◌≡◌, ap, ◌∙◌}
use mathlib.Core.List.{List, [], ◌∷◌}
use native.Mathlib.Nat.{add-zero}
use native.Mathlib.Omega.{arith}
use lib.Ieee.{Float, nan}
use lib.ListN.{get_or}
use Rattle.requests.specs.Row.{Row, row_words, row_reals, cell_at, row_of, row_at}
use Rattle.model.specs.Edit.{Edit, with_devices, enact, enact_all}
use Rattle.control.specs.Control.{devices_limit, pending_limit, device_count, queue_head, core_at}
use Rattle.control.specs.Shift.{value_at, Shifted}
use Rattle.control.specs.Sound.{Sound}
use Rattle.control.proofs.Sounds.{pending_bound}
use Rattle.control.specs.Change.{Removed}
use Rattle.control.proofs.Lists.{removed-devices}
use Rattle.session.specs.View.{pending_row, queue_row, request_at, item_at, device_in, session_in, session}
use Rattle.session.specs.Enact.{EnactedRows}
use Rattle.session.proofs.Views.{device_ext, queue_ext}

-- row i is now what row j was
row_ext : (w v : List ℕ) (r q : List Float) (i j : ℕ) → ((f : ℕ) → f < row_words → get_or v (i * row_words + f) 0 ≡ get_or w (j * row_words + f) 0)
    → ((f : ℕ) → f < row_reals → get_or q (i * row_reals + f) nan ≡ get_or r (j * row_reals + f) nan) → row_at v q i ≡ row_at w r j
unfolding row_at cell_at
row_ext w v r q i j h g =
    let k : get_or v (i * row_words) 0 ≡ get_or w (j * row_words) 0 = simp add-zero at (h 0 (omega arith)) in
    let x : get_or q (i * row_reals) nan ≡ get_or r (j * row_reals) nan = simp add-zero at (g 0 (omega arith)) in
    λ t.
    row_of
    (record {
      kind = k t;
      object = h 1 (omega arith) t;
      time = h 2 (omega arith) t;
      extra = h 3 (omega arith) t;
      flag = h 4 (omega arith) t;
      x = x t;
      y = g 1 (omega arith) t;
    })

-- the words and the reals of a device's pending rows
abbrev pending_words : ℕ
pending_words = row_words * pending_limit

abbrev pending_reals : ℕ
pending_reals = row_reals * pending_limit

-- the slots behind slot k moved down by one: n words and m reals
module _ (c w v : List ℕ) (r q : List Float) (k : ℕ) {to from n at start m : ℕ} (words : Shifted (value_at 0 w) (value_at 0 v) to from n)
    (reals : Shifted (value_at nan r) (value_at nan q) at start m) (to_is : to ≡ pending_words * k) (from_is : from ≡ pending_words * (k + 1))
    (n_is : n ≡ pending_words * (device_count c - 1 - k)) (at_is : at ≡ pending_reals * k) (start_is : start ≡ pending_reals * (k + 1)) (m_is : m ≡ pending_reals * (device_count c - 1 - k)) where
  row_moved : (i : ℕ) → pending_limit * k ≤ i → i < pending_limit * (device_count c - 1) → row_at v q i ≡ row_at w r (pending_limit + i)
  row_moved i a b =
      row_ext w v r q i (pending_limit + i) (λ f l. words.here (i * row_words + f) ((pending_limit + i) * row_words + f) (omega arith) (omega arith) (omega arith))
      (λ f l. reals.here (i * row_reals + f) ((pending_limit + i) * row_reals + f) (omega arith) (omega arith) (omega arith))

  row_kept : (i : ℕ) → (pending_limit * k ≤ i → i < pending_limit * (device_count c - 1) → ⊥) → row_at v q i ≡ row_at w r i
  row_kept i h =
      row_ext w v r q i i (λ f l. words.other (i * row_words + f) (λ a b. h (omega arith) (omega arith)))
      (λ f l. reals.other (i * row_reals + f) (λ a b. h (omega arith) (omega arith)))

  pub device-out : (e : List ℕ) → Sound c → k < device_count c → Removed c e k → EnactedRows c w r e v q (Edit.remove_device k ∷ [])
  unfolding session session_in enact_all enact with_devices
  device-out e ok l o texts load =
      let rows : ℕ → Row = row_at w r in
      let later : ℕ → Row = row_at v q in
      let small : device_count c ≤ devices_limit = ok.devices in
      let count : device_count c ≡ device_count e + 1 = o.count in
      let ds =
      removed-devices (device_in c rows texts) (device_in e later texts) {k = k} l o
      (λ j b.
      device_ext c e rows later texts texts j j (o.before j b)
      (λ i h. ap (item_at texts) (row_kept (pending_row j i) (λ x y. omega (arith, pending_bound ok j (omega arith))))))
      (λ j a b.
      device_ext c e rows later texts texts j (suc j) (o.behind j a b)
      (λ i h.
      let z : pending_limit + pending_row j i ≡ pending_row (suc j) i = omega arith in
      let p : (core_at c (suc j)).pending ≤ pending_limit = pending_bound ok (suc j) (omega arith) in
      ap (item_at texts) (row_moved (pending_row j i) (omega arith) (omega arith) ∙ ap rows z))) in
      let qs =
      queue_ext c e rows later texts texts o.queue.head o.queue.queued
      (λ i h. ap (request_at texts) (row_kept (queue_row (queue_head c) i) (λ a b. omega arith))) in
      record { sound = o.sound; view = λ x. record { connection = o.connection x; devices = ds x; requests = qs x } }
