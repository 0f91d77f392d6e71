-- Which control words are no damaged state. Assumes nothing.
use Rattle.std.specs.Prelude.{◌≡◌, ℕ, zero, suc, ◌<◌, ◌≤◌, Bool, true, ◌&&◌, List, length, ◌==◌, nat_le, nat_lt}
use Rattle.touches.specs.Touches.{touches_limit}
use Rattle.control.specs.Control.{seats_limit, devices_limit, pending_limit, queue_limit, control_length, seat_count, device_count, queue_head, queue_length, pending_at, held_at}

-- "21 BAD_STATE: a stored count above its limit, or a stored link past its table": 4 seats, 8 devices, 256 queued requests, for each device 64 pending
-- requests and 16 held touches; the queue's head is a place of its ring. "A removed seat, device .. counts no longer": what a row behind the last holds is no count.

unfoldable pub row_sound : List ℕ → ℕ → Bool
row_sound c k = nat_le (pending_at c k) pending_limit && nat_le (held_at c k) touches_limit

unfoldable pub rows_sound : List ℕ → ℕ → Bool
unfolding row_sound
rows_sound c zero = true
rows_sound c (suc k) = rows_sound c k && row_sound c k

unfoldable pub is_sound : List ℕ → Bool
unfolding rows_sound
is_sound c =
    (length c == control_length)
    && (nat_le (seat_count c) seats_limit
    && (nat_le (device_count c) devices_limit && (nat_lt (queue_head c) queue_limit && (nat_le (queue_length c) queue_limit && rows_sound c (device_count c)))))

-- the same as bounds
pub record Sound (c : List ℕ) : Type 0 where
  pub long : length c ≡ control_length
  pub seats : seat_count c ≤ seats_limit
  pub devices : device_count c ≤ devices_limit
  pub head : queue_head c < queue_limit
  pub queued : queue_length c ≤ queue_limit
  pub pending : (k : ℕ) → k < device_count c → pending_at c k ≤ pending_limit
  pub held : (k : ℕ) → k < device_count c → held_at c k ≤ touches_limit
