-- What the functions on the queue and the pending lists ask and answer. Assumes nothing.
use Rattle.std.specs.Prelude.{ℕ, zero, suc, ◌+◌, ◌≤◌, ◌<◌, ◌≡◌, Bool, List, [], ◌∷◌, leb, Float, length}
use Rattle.model.specs.Call.{Sight, Load}
use Rattle.model.specs.Edit.{Edit, item}
use Rattle.control.specs.Control.{devices_limit, pending_limit, queue_limit, queue_head, queue_length, core_at}
use Rattle.requests.specs.Row.{Row, framed_row, row_at}
use Rattle.session.specs.View.{words_length, reals_length, pending_row, queue_row, item_at}
use Rattle.session.specs.Loan.{Session, store_of}
use Rattle.session.specs.Enact.{Enacted}

-- the entries that the frame of n pending requests needs: "n + 1 for a Frame", none with nothing pending
unfoldable pub frame_entries : ℕ → ℕ
frame_entries zero = 0
frame_entries (suc n) = suc n + 1

-- "17 FULL_QUEUE: queued plus newly needed entries exceed 256"
unfoldable pub has_room : List ℕ → ℕ → Bool
has_room c n = leb (queue_length c + n) queue_limit

-- a request more that is pending in slot k: its row tells what the model has of it
abbrev pub Pends : (session : Session) (k : ℕ) → Row → Type 0
Pends s k row =
    (texts : List ℕ) (sight : Sight) (load : Load) → item sight load ≡ item_at texts row
    → Enacted (store_of s.entry.now texts) (store_of s.exit.now texts) (Edit.pend k sight ∷ []) load

-- n pending rows of slot k that there is room for in the queue
pub record Copyable (words : List ℕ) (reals : List Float) (k n head queued : ℕ) : Type 0 where
  pub words_long : length words ≡ words_length
  pub reals_long : length reals ≡ reals_length
  pub slot : k < devices_limit
  pub few : n ≤ pending_limit
  pub in_ring : head < queue_limit
  pub room : queued + n ≤ queue_limit

-- the first n pending rows of slot k stand behind the queue too, as their frame queues them; every other row is as it was
pub record Copied (before after : ℕ → Row) (k n head queued device time : ℕ) : Type 0 where
  pub here : (j : ℕ) → j < n → after (queue_row head (queued + j)) ≡ framed_row device time (before (pending_row k j))
  pub other : (i : ℕ) → ((j : ℕ) → j < n → i ≡ queue_row head (queued + j) → ⊥) → after i ≡ before i

-- "only the reference moves to the queue": each request that a frame of slot k queues names the slot that it named while it was pending
abbrev pub SlotsStay : (session : Session) (k : ℕ) → Type 0
SlotsStay s k =
    let c = s.entry.now.control.now in
    (j : ℕ) → j < (core_at c k).pending
    → (row_at s.exit.now.words.now s.exit.now.reals.now (queue_row (queue_head c) (queue_length c + j))).slot
    ≡ (row_at s.entry.now.words.now s.entry.now.reals.now (pending_row k j)).slot
