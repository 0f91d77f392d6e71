-- What the writers of events write. Assumes nothing.
use Rattle.std.specs.Prelude.{◌≡◌, ℕ, ◌+◌, ◌*◌, List, [], length}
use Rattle.wire.specs.Bits.{splice}
use Rattle.model.specs.Session.{Device}
use Rattle.model.specs.Edit.{raised}
use Rattle.model.specs.Plan.{Sent, records}
use Rattle.model.specs.Decide.{destroyed}
use Rattle.control.specs.Table.{tab}
use Rattle.control.specs.Control.{device_count, Core, core_at}
use Rattle.session.specs.Slices.{Numbers}
use Rattle.events.specs.declared.Mark.{Mark}

-- the records of events stand at the place, and the answer is the place behind them
pub record Sends (out later : List ℕ) (at : ℕ) (sent : List Sent) (r : ℕ) : Type 0 where
  pub bytes : later ≡ splice out at (records sent)
  pub next : r ≡ at + length (records sent)

-- destroyed for objects in turn, with the serials that follow the mark's: the mark is then behind them, with the last of those serials
pub record Destroys (out later : List ℕ) (mark : Mark) (objects : List ℕ) (r : Mark) : Type 0 where
  pub bytes : later ≡ splice out mark.at (records (destroyed mark.serial objects))
  pub at : r.at ≡ mark.at + 14 * length objects
  pub serial : r.serial ≡ raised (length objects) mark.serial

-- ---- the same, said of `out` as a writer is lent it

abbrev pub Writes : (out : Numbers) → (at : ℕ) → List Sent → ℕ → Type 0
Writes out at sent r = Sends out.entry.now out.exit.now at sent r

abbrev pub WritesDestroyed : (out : Numbers) → Mark → (objects : List ℕ) → Mark → Type 0
WritesDestroyed out mark objects r = Destroys out.entry.now out.exit.now mark objects r

-- ---- a device as its control words tell it: what is pending has no part in an event
unfoldable pub bare : Core → Device (Unit {0})
bare d = record { id = d.id; seat = d.seat; interfaces = d.interfaces; down_touch_ids = d.down_touch_ids; pending = [] }

unfoldable pub bare_devices : List ℕ → List (Device (Unit {0}))
unfolding tab bare core_at
bare_devices c = tab (device_count c) (λ k. bare (core_at c k))
