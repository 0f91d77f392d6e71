-- What the functions ask for that announce a new seat and a new device. Assumes nothing.
use Rattle.std.specs.Prelude.{ℕ, ◌+◌, ◌≤◌, List, length}
use Rattle.std.proofs.Math.Option.{Option}
use Rattle.eiproto.specs.Bits.{bits_of}
use Rattle.eiproto.specs.Capability.{interface_of_bit}
use Rattle.model.specs.Plan.{Sent, records}
use Rattle.model.specs.Edit.{new_interfaces}
use Rattle.model.specs.Decide.{version, interface_event, interface_events, seat_events, device_events}
use Rattle.control.specs.Control.{connection_of}
use Rattle.control.specs.Sound.{Sound}

-- the event of a new device's interface, by the control words
abbrev pub offered : (control : List ℕ) (device bit id : ℕ) → List Sent
offered control device bit id = interface_event device (record { capability = bit; id = id }) (version (connection_of control) (interface_of_bit bit))

-- what is asked for: ids that are left behind a device's own, and room

pub record CanAnnounceSeat (control : List ℕ) (id version : ℕ) (name : Option (List ℕ)) (capabilities : ℕ) (out : List ℕ) : Type 0 where
  pub sound : Sound control
  pub room : length (records (seat_events (connection_of control) id version name capabilities)) ≤ length out

pub record CanAnnounceInterfaces (control : List ℕ) (device capabilities : ℕ) (out : List ℕ) (from : ℕ) : Type 0 where
  pub sound : Sound control
  pub ids : device + 1 + length (bits_of capabilities) ≤ 0xffff_ffff_ffff_ffff
  pub room : from + length (records (interface_events (connection_of control) device (new_interfaces device capabilities))) ≤ length out

pub record CanAnnounceDevice (control : List ℕ) (seat id version : ℕ) (name : Option (List ℕ)) (kind capabilities : ℕ) (out : List ℕ) : Type 0 where
  pub sound : Sound control
  pub ids : id + 1 + length (bits_of capabilities) ≤ 0xffff_ffff_ffff_ffff
  pub room : length (records (device_events (connection_of control) seat id version name kind capabilities)) ≤ length out
