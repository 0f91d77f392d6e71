-- The entries that are needed, and the room for them. Assumes nothing.
use Prim.Native.Nat.{ℕ, zero, suc, ◌+◌, ◌≤◌, ◌<◌}
use native.Mathlib.Omega.{arith}
use mathlib.Core.Path.{◌≡◌, refl, ap}
use mathlib.Core.Bool.{true}
use borrow.Author.Tests.{le-leb}
use mathlib.Core.List.{List}
use lib.Dec.{leb}
use Rattle.control.specs.Control.{queue_limit, queue_length, pending_at, core_at}
use Rattle.control.proofs.Sounds.{pending_bound}
use Rattle.queue.specs.Queue.{frame_entries, has_room}

pub room : (c : List ℕ) (n queued : ℕ) → queued ≡ queue_length c → leb (queued + n) queue_limit ≡ has_room c n
unfolding has_room
room c n queued e = ap (λ (q : ℕ). leb (q + n) queue_limit) e

pub entries_none : (n : ℕ) → n ≡ 0 → frame_entries n ≡ 0
unfolding frame_entries
entries_none zero e = refl
entries_none (suc n) e = absurd (omega arith)

pub entries-some : (n : ℕ) → 0 < n → frame_entries n ≡ n + 1
unfolding frame_entries
entries-some zero l = absurd (omega arith)
entries-some (suc n) l = refl

-- a frame of nothing fits
pub frame-none-fits : (c : List ℕ) (n : ℕ) → n ≡ 0 → queue_length c ≤ queue_limit → has_room c (frame_entries n) ≡ true
unfolding has_room
frame-none-fits c n e l = rw (entries_none n e) (le-leb (queue_length c + 0) queue_limit (omega arith))

pub pending_is : (c : List ℕ) (k : ℕ) → (core_at c k).pending ≡ pending_at c k
unfolding core_at
pending_is c k = refl

-- where something is pending
pub frame-room : (c : List ℕ) (k : ℕ) {n queued : ℕ} → n ≡ (core_at c k).pending → 0 < n → queued ≡ queue_length c → queue_length c + frame_entries (pending_at c k) ≤ queue_limit
    → queued + n + 1 ≤ queue_limit
unfolding core_at
frame-room c k is some len fits = omega (arith, entries-some (pending_at c k) (omega arith))

-- what tells a `grind` the entries of a frame from the count that was read
pub ruleset entries = (entries-some, entries_none, pending_is, pending_bound)
