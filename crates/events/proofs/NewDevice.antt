-- The events of a new device, each behind those before it. Assumes nothing.
use Rattle.std.proofs.Common.{◌≡◌, ℕ, ◌+◌, ◌≤◌, List, [], ◌∷◌, ◌++◌, length, refl, ◌∙◌, arith}
use mathlib.Core.Option.{Option}
use Rattle.wire.specs.declared.event.Event.{Event}
use Rattle.wire.specs.Bits.{widths}
use Rattle.wire.specs.Record.{layout, text_of, fixed_length, record_length}
use Rattle.model.specs.Session.{Connection}
use Rattle.model.specs.Edit.{new_interfaces}
use Rattle.model.specs.Plan.{Sent, on, records}
use Rattle.model.specs.Decide.{name_events, interface_events, device_events}
use Rattle.control.specs.Control.{connection_of}
use Rattle.events.specs.Events.{Sends}
use Rattle.events.specs.Announce.{CanAnnounceInterfaces, CanAnnounceDevice}
use Rattle.events.proofs.Writes.{append-length, one_length, cons-length, sends_join}
use Rattle.events.proofs.Named.{done-fixed, done-text}
use Rattle.events.proofs.Objects.{bits_few}

device-text : (id version : ℕ) (text : List ℕ) → record_length (Event.Device id version) text ≡ fixed_length (Event.Device id version)
unfolding record_length text_of layout
device-text id version text = omega arith

type-text : (kind : ℕ) (text : List ℕ) → record_length (Event.DeviceType kind) text ≡ fixed_length (Event.DeviceType 0)
unfolding record_length fixed_length text_of layout widths
type-text kind text = refl

-- what an event without a text takes
pub device-fixed : (id version : ℕ) → fixed_length (Event.Device id version) ≡ 22
unfolding fixed_length layout widths
device-fixed id version = refl

pub type-fixed : fixed_length (Event.DeviceType 0) ≡ 14
unfolding fixed_length layout widths
type-fixed = refl

module _ (c : Connection) (seat id version : ℕ) (name : Option (List ℕ)) (kind caps : ℕ) where
  abbrev all : List Sent
  all = device_events c seat id version name kind caps

  abbrev last : List Sent
  last = on id Event.Done ∷ []

  abbrev listed : List Sent
  listed = interface_events c id (new_interfaces id caps)

  abbrev named : ℕ
  named = length (records (name_events id name))

  last-bytes : length (records last) ≡ fixed_length Event.Done
  last-bytes = one_length id Event.Done [] ∙ done-text []

  listed-bytes : length (records (listed ++ last)) ≡ length (records listed) + fixed_length Event.Done
  listed-bytes = omega (arith, append-length listed last, last-bytes)

  typed-bytes : length (records (on id (Event.DeviceType kind) ∷ listed ++ last)) ≡ fixed_length (Event.DeviceType 0) + length (records listed) + fixed_length Event.Done
  typed-bytes = omega (arith, cons-length id (Event.DeviceType kind) (fixed_length (Event.DeviceType 0)) (listed ++ last) (type-text kind []), listed-bytes)

  named-bytes : length (records (name_events id name ++ (on id (Event.DeviceType kind) ∷ listed ++ last)))
      ≡ named + fixed_length (Event.DeviceType 0) + length (records listed) + fixed_length Event.Done
  named-bytes = omega (arith, append-length (name_events id name) (on id (Event.DeviceType kind) ∷ listed ++ last), typed-bytes)

  pub device-bytes : length (records all)
      ≡ fixed_length (Event.Device id version) + named + fixed_length (Event.DeviceType 0) + length (records listed) + fixed_length Event.Done
  device-bytes =
      omega (
        arith,
        cons-length seat (Event.Device id version) (fixed_length (Event.Device id version)) (name_events id name ++ (on id (Event.DeviceType kind) ∷ listed ++ last)) (device-text id version []),
        named-bytes,
      )

-- each event behind those before it
module _ {control : List ℕ} {seat id version : ℕ} {name : Option (List ℕ)} {kind caps : ℕ} {out : List ℕ}
    (can : CanAnnounceDevice control seat id version name kind caps out) where
  abbrev n : Connection
  n = connection_of control

  bytes : length (records (name_events id name)) + length (records (interface_events n id (new_interfaces id caps))) + fixed_length (Event.Device id version) + fixed_length (Event.DeviceType 0) + fixed_length Event.Done
      ≤ length out
  bytes = omega (arith, can.room, device-bytes n seat id version name kind caps)

  pub device-room : (text : List ℕ) → 0 + record_length (Event.Device id version) text ≤ length out
  device-room text = omega (arith, device-text id version text, bytes)

  module _ {m : List ℕ} {a : ℕ} (p : Sends out m 0 (on seat (Event.Device id version) ∷ []) a) (l : length m ≡ length out) where
    at_name : a ≡ fixed_length (Event.Device id version)
    at_name = omega (arith, p.next, one_length seat (Event.Device id version) [] ∙ device-text id version [])

    pub name-room : a + length (records (name_events id name)) ≤ length m
    name-room = omega (arith, at_name, bytes)

    module _ {k : List ℕ} {b : ℕ} (q : Sends m k a (name_events id name) b) (h : length k ≡ length m) where
      pub type-room : (text : List ℕ) → b + record_length (Event.DeviceType kind) text ≤ length k
      type-room text = omega (arith, at_name, q.next, bytes, type-text kind text)

      module _ {j : List ℕ} {d : ℕ} (s : Sends k j b (on id (Event.DeviceType kind) ∷ []) d) (i : length j ≡ length k) where
        at_interfaces : d ≡ b + fixed_length (Event.DeviceType 0)
        at_interfaces = s.next ∙ omega (arith, one_length id (Event.DeviceType kind) [] ∙ type-text kind [])

        pub interfaces-room : CanAnnounceInterfaces control id caps j d
        interfaces-room =
            record { sound = can.sound; ids = can.ids; room = omega (arith, at_name, q.next, at_interfaces, bytes) }

        module _ {f : List ℕ} {e : ℕ} (t : Sends j f d (interface_events n id (new_interfaces id caps)) e) (g : length f ≡ length j) where
          pub done-room : (text : List ℕ) → e + record_length Event.Done text ≤ length f
          done-room text = omega (arith, at_name, q.next, at_interfaces, t.next, bytes, done-text text)

          pub device-sends : {later : List ℕ} {r : ℕ} → Sends f later e (on id Event.Done ∷ []) r
              → Sends out later 0 (device_events n seat id version name kind caps) r
          device-sends u =
              let z = at_name in
              let y = at_interfaces in
              let w = bytes in
              sends_join (omega (arith, named-bytes n seat id version name kind caps))
              p
              (sends_join (omega (arith, q.next, typed-bytes n seat id version name kind caps))
              q
              (sends_join (omega (arith, q.next, listed-bytes n seat id version name kind caps))
              s
              (sends_join (omega (arith, q.next, t.next, last-bytes n seat id version name kind caps)) t u)))

-- what bounds the sum of a device's lengths
pub ruleset device_sizes = (device-fixed, type-fixed, done-fixed, bits_few)
