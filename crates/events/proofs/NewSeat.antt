-- The events of a new seat, each behind those before it. Assumes nothing.
use Rattle.std.proofs.Common.{◌≡◌, ℕ, ◌+◌, ◌≤◌, List, [], ◌∷◌, ◌++◌, length, refl, ◌∙◌, arith}
use mathlib.Core.Option.{Option}
use Rattle.eiproto.specs.Bits.{bits_of}
use Rattle.wire.specs.declared.event.Event.{Event}
use Rattle.wire.specs.Bits.{widths}
use Rattle.wire.specs.Record.{layout, text_of, fixed_length, record_length}
use Rattle.model.specs.Session.{Connection}
use Rattle.model.specs.Plan.{Sent, on, records}
use Rattle.model.specs.Decide.{name_events, capability_events, seat_events}
use Rattle.control.specs.Control.{connection_of}
use Rattle.events.specs.Events.{Sends}
use Rattle.events.specs.Announce.{CanAnnounceSeat}
use Rattle.events.proofs.Writes.{append-length, one_length, cons-length, sends_join}
use Rattle.events.proofs.Named.{done-fixed, done-text}
use Rattle.events.proofs.Objects.{bits_few}

seat-text : (id version : ℕ) (text : List ℕ) → record_length (Event.Seat id version) text ≡ fixed_length (Event.Seat id version)
unfolding record_length text_of layout
seat-text id version text = omega arith

module _ (c : Connection) (id version : ℕ) (name : Option (List ℕ)) (caps : ℕ) where
  abbrev all : List Sent
  all = seat_events c id version name caps

  abbrev named : ℕ
  named = length (records (name_events id name))

  abbrev announced : ℕ
  announced = length (records (capability_events id (bits_of caps)))

  pub seat-bytes : length (records all) ≡ fixed_length (Event.Seat id version) + named + announced + fixed_length Event.Done
  seat-bytes =
      let a = cons-length c.id (Event.Seat id version) (fixed_length (Event.Seat id version)) (name_events id name ++ (capability_events id (bits_of caps) ++ (on id Event.Done ∷ []))) (seat-text id version []) in
      let b = append-length (name_events id name) (capability_events id (bits_of caps) ++ (on id Event.Done ∷ [])) in
      let d = append-length (capability_events id (bits_of caps)) (on id Event.Done ∷ []) in
      let e = one_length id Event.Done [] ∙ done-text [] in
      omega arith

-- each event behind those before it
module _ {control : List ℕ} {id version : ℕ} {name : Option (List ℕ)} {caps : ℕ} {out : List ℕ} (can : CanAnnounceSeat control id version name caps out) where
  abbrev capabilities : List Sent
  capabilities = capability_events id (bits_of caps)

  abbrev last : List Sent
  last = on id Event.Done ∷ []

  bytes : length (records (name_events id name)) + length (records capabilities) + fixed_length (Event.Seat id version) + fixed_length Event.Done ≤ length out
  bytes = omega (arith, can.room, seat-bytes (connection_of control) id version name caps)

  pub seat-room : (text : List ℕ) → 0 + record_length (Event.Seat id version) text ≤ length out
  seat-room text = omega (arith, seat-text id version text, bytes)

  module _ {m : List ℕ} {a object : ℕ} (o : object ≡ (connection_of control).id) (p : Sends out m 0 (on object (Event.Seat id version) ∷ []) a)
      (l : length m ≡ length out) where
    at_name : a ≡ fixed_length (Event.Seat id version)
    at_name = omega (arith, p.next, one_length object (Event.Seat id version) [] ∙ seat-text id version [])

    pub name-room : a + length (records (name_events id name)) ≤ length m
    name-room = omega (arith, at_name, bytes)

    module _ {k : List ℕ} {b : ℕ} (q : Sends m k a (name_events id name) b) (h : length k ≡ length m) where
      pub capabilities-room : b + length (records capabilities) ≤ length k
      capabilities-room = omega (arith, at_name, q.next, bytes)

      module _ {j : List ℕ} {d : ℕ} (s : Sends k j b capabilities d) (i : length j ≡ length k) where
        pub done-room : (text : List ℕ) → d + record_length Event.Done text ≤ length j
        done-room text = omega (arith, at_name, q.next, s.next, bytes, done-text text)

        pub seat-sends : {later : List ℕ} {r : ℕ} → Sends j later d last r → Sends out later 0 (seat_events (connection_of control) id version name caps) r
        seat-sends f =
            let one = one_length id Event.Done [] ∙ done-text [] in
            let ends = append-length capabilities last in
            let behind = append-length (name_events id name) (capabilities ++ last) in
            let z = at_name in
            let n = bytes in
            sends_join (omega (arith, p.next))
            (rw o at p)
            (sends_join (omega (arith, q.next))
            q
            (sends_join (omega (arith, q.next, s.next)) s f))

-- the room of an event without a text
pub seat-fixed : (id version : ℕ) → fixed_length (Event.Seat id version) ≡ 22
unfolding fixed_length layout widths
seat-fixed id version = refl

-- what bounds the sum of a seat's lengths
pub ruleset seat_sizes = (seat-fixed, done-fixed, bits_few)
