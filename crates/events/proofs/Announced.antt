-- What a new seat and a new device announce, bit by bit: what is done, then what is left. Assumes nothing.
use Rattle.std.proofs.Common.{◌≡◌, ℕ, ◌+◌, ◌*◌, ◌%◌, ◌^◌, ◌<◌, ◌≤◌, List, [], ◌∷◌, ◌++◌, length, sym, refl, ap, ◌∙◌, arith}
use mathlib.Core.Option.{none, some}
use Rattle.eiproto.specs.Bits.{bit, bits_of, every, common}
use Rattle.eiproto.specs.Capability.{interface_of_bit}
use Rattle.eiproto.proofs.Bits.{one_shl}
use Rattle.wire.specs.declared.event.Event.{Event}
use Rattle.wire.specs.Bits.{widths}
use Rattle.wire.specs.Record.{layout, text_of, fixed_length, record_length}
use Rattle.model.specs.Session.{Interface, Connection}
use Rattle.model.specs.Edit.{interfaces_from, new_interfaces}
use Rattle.model.specs.Plan.{Sent, on, records}
use Rattle.model.specs.Decide.{version, negotiated_capabilities, capability_events, interface_event, interface_events}
use Rattle.model.proofs.ReachableHeld.{both}
use Rattle.model.proofs.Cut.{has-version, Among, new_among}
use Rattle.control.proofs.Interfaces.{new_length}
use Rattle.events.specs.Events.{Sends}
use Rattle.events.proofs.Writes.{one_length, cons-length}

-- ---- capabilities

capability-room : (mask interface : ℕ) (text : List ℕ) → record_length (Event.Capability mask interface) text ≡ 19
unfolding record_length fixed_length text_of layout widths
capability-room mask interface text = refl

abbrev pub capability_event : ℕ → Event
capability_event b = Event.Capability (2 ^ b) (interface_of_bit b)

pub capability-fits : {n : ℕ} (at seat b mask interface : ℕ) (text : List ℕ) → at + length (records (on seat (capability_event b) ∷ [])) ≤ n
    → at + record_length (Event.Capability mask interface) text ≤ n
capability-fits at seat b mask interface text h =
    omega (arith, one_length seat (capability_event b) [], capability-room mask interface text, capability-room (2 ^ b) (interface_of_bit b) [])

-- the mask that the code shifts is the bit's
pub capability-sent : {out later : List ℕ} {at interface r : ℕ} (seat b : ℕ) → b < 64 → interface ≡ interface_of_bit b
    → Sends out later at (on seat (Event.Capability (1 * 2 ^ b % 2 ^ 64) interface) ∷ []) r → Sends out later at (on seat (capability_event b) ∷ []) r
capability-sent seat b h i s =
    rw (one_shl b h, i) at s

module _ (seat : ℕ) where
  -- the events of a mask's bits
  abbrev pub announced : ℕ → List Sent
  announced m = capability_events seat (bits_of m)

  pub announced-none : (m : ℕ) → bits_of m ≡ [] → announced m ≡ []
  unfolding capability_events
  announced-none m z = ap (capability_events seat) z

  pub announced-more : (m b later : ℕ) → bits_of m ≡ b ∷ bits_of later → announced m ≡ on seat (capability_event b) ∷ announced later
  unfolding capability_events
  announced-more m b later e = ap (capability_events seat) e

  pub capabilities-length : (bs : List ℕ) → length (records (capability_events seat bs)) ≡ 19 * length bs
  unfolding capability_events records
  capabilities-length [] = refl
  capabilities-length (b ∷ bs) =
      cons-length seat (capability_event b) 19 (capability_events seat bs) (capability-room (2 ^ b) (interface_of_bit b) []) ∙ omega (arith, capabilities-length bs)

-- ---- interfaces

interface-room : (id interface version : ℕ) (text : List ℕ) → record_length (Event.Interface id interface version) text ≡ 23
unfolding record_length fixed_length text_of layout widths
interface-room id interface version text = refl

module _ (c : Connection) (device : ℕ) where
  events-length : (is : List Interface) → Among (negotiated_capabilities c) is → length (records (interface_events c device is)) ≡ 23 * length is
  unfolding interface_events interface_event records every
  events-length [] a = refl
  events-length (i ∷ is) a =
      let m = negotiated_capabilities c in
      let p = both (bit i.capability m) (every (λ j. bit j.capability m) is) a in
      let v = has-version c i.capability p.0 in
      rw v.1
      (cons-length device (Event.Interface i.id (interface_of_bit i.capability) v.0) 23 (interface_events c device is)
      (interface-room i.id (interface_of_bit i.capability) v.0 [])
      ∙ omega (arith, events-length is p.1))

  -- where each was negotiated, each is told
  pub interfaces-length : (caps : ℕ) → common caps (negotiated_capabilities c) ≡ caps
      → length (records (interface_events c device (new_interfaces device caps))) ≡ 23 * length (bits_of caps)
  interfaces-length caps h =
      events-length (new_interfaces device caps) (new_among (negotiated_capabilities c) device caps h) ∙ ap (λ (n : ℕ). 23 * n) (new_length device caps)

  -- the interface of a bit, by what its lookup says
  module _ {interface : ℕ} (b id : ℕ) (i : interface ≡ interface_of_bit b) where
    abbrev offer : List Sent
    offer = interface_event device (record { capability = b; id = id }) (version c (interface_of_bit b))

    pub offer-some : {v : ℕ} → some v ≡ version c interface → offer ≡ on device (Event.Interface id interface v) ∷ []
    unfolding interface_event
    offer-some {v} e =
        ap (interface_event device (record { capability = b; id = id })) (ap (version c) (sym i) ∙ sym e)
        ∙ ap (λ (x : ℕ). on device (Event.Interface id x v) ∷ []) (sym i)

    pub offer-none : none ≡ version c interface → offer ≡ []
    unfolding interface_event
    offer-none e = ap (interface_event device (record { capability = b; id = id })) (ap (version c) (sym i) ∙ sym e)

    pub offer-room : (v at n : ℕ) (text : List ℕ) → some v ≡ version c interface → at + length (records offer) ≤ n → at + record_length (Event.Interface id interface v) text ≤ n
    offer-room v at n text e h =
        omega (arith, ap (λ (l : List Sent). length (records l)) (offer-some e), one_length device (Event.Interface id interface v) [], interface-room id interface v [], interface-room id interface v text)

  -- of the bits that are left, with the ids from here on
  abbrev pub coming : (id m : ℕ) → List Sent
  coming id m = interface_events c device (interfaces_from id (bits_of m))

  pub coming-first : (caps : ℕ) → interface_events c device (new_interfaces device caps) ≡ coming (device + 1) caps
  unfolding new_interfaces
  coming-first caps = refl

  pub coming-none : (id m : ℕ) → bits_of m ≡ [] → coming id m ≡ []
  unfolding interface_events interfaces_from
  coming-none id m z = ap (λ (l : List ℕ). interface_events c device (interfaces_from id l)) z

  -- the lowest bit's event, if its interface has a version, then the others'
  pub coming-more : (id m b later : ℕ) → bits_of m ≡ b ∷ bits_of later
      → coming id m ≡ interface_event device (record { capability = b; id = id }) (version c (interface_of_bit b)) ++ coming (id + 1) later
  unfolding interface_events interfaces_from
  coming-more id m b later e = ap (λ (bs : List ℕ). interface_events c device (interfaces_from id bs)) e
