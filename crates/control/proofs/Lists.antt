-- The changes in the model's words: of any table of devices; a new device's interfaces. Assumes nothing.
use Rattle.std.proofs.Common.{◌≡◌, ℕ, suc, ◌+◌, ◌^◌, ◌<◌, ◌≤◌, List, length, sym, ap, ◌∙◌, arith}
use Rattle.eiproto.specs.Bits.{bits_of}
use Rattle.model.specs.Session.{Device, Connection}
use Rattle.model.specs.Edit.{new_interfaces, at, without_slot}
use Rattle.control.specs.Table.{tab}
use Rattle.control.specs.Control.{device_count, Core}
use Rattle.control.proofs.Tables.{tab_cut}
use Rattle.control.proofs.Interfaces.{new_interfaces_lem}
use Rattle.control.proofs.Models.{without_slot_lem, at_slot}
use Rattle.control.specs.Change.{Reconnected, Amended, Removed, new_core}

module _ {c e : List ℕ} where
  -- f and g: the devices with their pending requests, before and after
  module _ {P : Type 0} (f g : ℕ → Device P) where
    pub amended-devices : {k : ℕ} {to : Core} (change : Device P → Device P) → k < device_count c → Amended c e k to → g k ≡ change (f k)
        → ((j : ℕ) → j < device_count c → (j ≡ k → ⊥) → g j ≡ f j) → tab (device_count e) g ≡ at change k (tab (device_count c) f)
    amended-devices {k} change l a h o = ap (λ (n : ℕ). tab n g) a.count ∙ at_slot change (device_count c) k f g l h o

    pub removed-devices : {k : ℕ} → k < device_count c → Removed c e k → ((j : ℕ) → j < k → g j ≡ f j)
        → ((j : ℕ) → k ≤ j → j < device_count e → g j ≡ f (suc j)) → tab (device_count e) g ≡ without_slot k (tab (device_count c) f)
    removed-devices {k} l r a b = tab_cut (device_count c) (device_count e) k f g r.count l a b ∙ sym (without_slot_lem k (tab (device_count c) f))

  -- two changes of the connection, one after the other
  pub reconnected_twice : {m : List ℕ} {to last : Connection} → Reconnected c m to → Reconnected m e last → Reconnected c e last
  reconnected_twice a b =
      record {
        connection = b.connection;
        devices = record { count = b.devices.count ∙ a.devices.count; core = λ k. b.devices.core k ∙ a.devices.core k };
        queue = record { head = b.queue.head ∙ a.queue.head; queued = b.queue.queued ∙ a.queue.queued };
        sound = b.sound;
      }

-- while the ids do not pass 2 ^ 64 - 1, a new device has the model's interfaces
pub new_core_lem : (id seat caps : ℕ) → caps < 128 → id + 1 + length (bits_of caps) ≤ 2 ^ 64 → (new_core id seat caps).interfaces ≡ new_interfaces id caps
unfolding new_core
new_core_lem id seat caps small room = new_interfaces_lem id caps (omega arith) room
