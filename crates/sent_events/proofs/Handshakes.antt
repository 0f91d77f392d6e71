-- The theorems of specs/Handshake: a handshake writes its version, or reports of the twelve interfaces and a connection, and keeps at most twelve versions. Assumes nothing.
use Prim.Native.Nat.{ℕ, ◌+◌, ◌-◌, ◌≤◌, ◌<◌, min}
use mathlib.Core.Path.{◌≡◌, refl}
use mathlib.Core.Bool.{Bool, true, false, cond}
use mathlib.Core.List.{List, [], ◌∷◌, ◌++◌, append_assoc, append-nil}
use mathlib.Core.Option.{Option, none, some}
use native.Mathlib.Omega.{arith}
use lib.Dec.{ltb}
use lib.ListN.{length, length-set, length-replicate}
use borrow.Author.Tests.{le-leb}
use Rattle.eiproto.specs.Interface.{interface_count, lookup, server_version}
use Rattle.eiproto.specs.declared.eiproto_enum.ContextType.{ContextType}
use Rattle.utf8.specs.Rfc3629.{is_utf8}
use Rattle.wire.specs.Record.{layout, event_record}
use Rattle.wire.specs.declared.event.Event.{Event}
use Rattle.event_messages.specs.Table.{kind_of}
use Rattle.event_messages.specs.Message.{arguments, message}
use Rattle.event_messages.specs.Stands.{sendable, Stands}
use Rattle.handshake.specs.Handshake.{Handshake, Message, Step, no_versions, negotiate, sent, report_one, report, refuse, accept, check_utf8, check_room, fresh_handshake, begun, start, set_name, set_context, complete, concluded, missing, finish, handle_request}
use Rattle.handshake.specs.Run.{Call, run, trail}
use Rattle.model.proofs.All.{All, none as nil, more}
use Rattle.sent_events.specs.Sendable.{Sendable}
use Rattle.sent_events.proofs.Sessions.{all_mem}
use Rattle.sent_events.specs.Handshake.{Shaking, HandshakeIsSendable, HandshakesAreSendable}

-- ---- the records

append-sendable : {O : (interface id : ℕ) → Type 0} {xs ys : List ℕ} → Sendable O xs → Sendable O ys → Sendable O (xs ++ ys)
append-sendable Sendable.none b = b
append-sendable {ys = ys} (Sendable.more {bytes = bytes} {rest = rest} x o a) b = rw (append_assoc bytes rest ys) (Sendable.more x o (append-sendable a b))

one_sendable : (event : Event) (opcode : ℕ) → kind_of 0 opcode ≡ (layout event).kind → sendable event [] ≡ true → Sendable Shaking (sent event)
unfolding sent
one_sendable event opcode has fits =
    let x : Stands 0 (event_record 0 event []) (message 0 opcode (arguments event [])) = record { object = 0; opcode = opcode; event = event; text = []; has = has; fits = fits; laid = refl; told = refl } in
    let all : Sendable Shaking (event_record 0 event [] ++ []) = Sendable.more x Shaking.handshake Sendable.none in
    rw (append-nil (event_record 0 event [])) at all

report-sendable : (i : ℕ) (vs : List (Option ℕ)) → 0 < i → i + length vs ≤ 13 → Sendable Shaking (report i vs)
unfolding report report_one kind_of layout sendable
report-sendable i [] low high = Sendable.none
report-sendable i (none ∷ vs) low high = report-sendable (i + 1) vs (omega arith) (omega arith)
report-sendable i (some v ∷ vs) low high =
    append-sendable (one_sendable (Event.InterfaceVersion i v) 1 refl (rw (le-leb 1 i (omega arith), le-leb i 12 (omega arith))))
    (report-sendable (i + 1) vs (omega arith) (omega arith))

-- ---- the calls

-- what is written can be sent, and no version of a thirteenth interface comes in
record Fine (s : Step) : Type 0 where
  bytes : Sendable Shaking s.bytes
  few : length s.handshake.versions ≤ interface_count

no_versions_lem : length no_versions ≤ interface_count
unfolding no_versions
no_versions_lem = let none_yet : Option ℕ = none in omega (arith, length-replicate interface_count none_yet)

module _ (h : Handshake) (few : length h.versions ≤ interface_count) where
  cond-fine : (b : Bool) {s t : Step} → Fine s → Fine t → Fine (cond b s t)
  cond-fine true p q = p
  cond-fine false p q = q

  refuse-fine : (n : ℕ) → Fine (refuse h n)
  unfolding refuse
  refuse-fine n = record { bytes = Sendable.none; few = few }

  check_utf8-fine : (text : List ℕ) {s : Step} → Fine s → Fine (check_utf8 h text s)
  unfolding check_utf8
  check_utf8-fine text p = cond-fine (is_utf8 text) p (refuse-fine 10)

  room-fine : (room : ℕ) {s : Step} → Fine s → Fine (check_room h room s)
  unfolding check_room
  room-fine room {s} p = cond-fine (ltb room (length s.bytes)) (refuse-fine 19) p

  reports : Sendable Shaking (report 1 h.versions)
  reports = report-sendable 1 h.versions (omega arith) (omega arith)

  finish-fine : (room : ℕ) → Fine (finish h room)
  unfolding finish concluded missing kind_of layout sendable
  finish-fine room =
      cond-fine (complete h.versions)
      (cond-fine (ltb 0xffff_ffff_ffff_ffff (h.next_id + 1)) (refuse-fine 20)
      (room-fine room (record { bytes = append-sendable reports (one_sendable (Event.Connection h.next_id h.initial_serial 1) 2 refl refl); few = no_versions_lem })))
      (room-fine room (record { bytes = reports; few = few }))

  name-fine : (name : List ℕ) (old : Option (List ℕ)) → Fine (set_name h name old)
  unfolding set_name accept
  name-fine name none = record { bytes = Sendable.none; few = few }
  name-fine name (some old) = refuse-fine 8

  context-fine : (c : ContextType) (old : Option ContextType) → Fine (set_context h c old)
  unfolding set_context accept
  context-fine c none = record { bytes = Sendable.none; few = few }
  context-fine c (some old) = refuse-fine 8

  negotiate-few : (i : Option ℕ) (version : ℕ) → length (negotiate i version h.versions) ≤ interface_count
  unfolding negotiate
  negotiate-few none version = few
  negotiate-few (some i) version = omega (arith, length-set h.versions (i - 1) (some (min version (server_version i))))

  request-fine : (m : Message) (room : ℕ) → Fine (handle_request h m room)
  unfolding handle_request accept
  request-fine (Message.HandshakeVersion v) room = record { bytes = Sendable.none; few = few }
  request-fine Message.Finish room = finish-fine room
  request-fine (Message.Context c) room = context-fine c h.context_type
  request-fine (Message.Name name) room =
      check_utf8-fine name (cond-fine (ltb 254 (length name)) (refuse-fine 11) (name-fine name h.name))
  request-fine (Message.InterfaceVersion name v) room = check_utf8-fine name (record { bytes = Sendable.none; few = negotiate-few (lookup name) v })
  request-fine (Message.Other text) room = check_utf8-fine text (refuse-fine 7)

start_fine : (serial room : ℕ) → Fine (start serial room)
unfolding start begun fresh_handshake kind_of layout sendable
start_fine serial room =
    room-fine (fresh_handshake serial) no_versions_lem room (record { bytes = one_sendable (Event.HandshakeVersion 1) 0 refl refl; few = no_versions_lem })

run-fine : (cs : List Call) (h : Handshake) → length h.versions ≤ interface_count → All Fine (run cs h)
unfolding run
run-fine [] h few = nil
run-fine (c ∷ cs) h few = let p = request-fine h few c.request c.room in more p (run-fine cs _ p.few)

-- ---- the theorems

pub handshake_is_sendable : HandshakeIsSendable
unfolding HandshakeIsSendable
handshake_is_sendable h m room few = (request-fine h few m room).bytes

pub handshakes_are_sendable : HandshakesAreSendable
unfolding HandshakesAreSendable trail
handshakes_are_sendable serial room cs x m = let p = start_fine serial room in (all_mem (more p (run-fine cs (start serial room).handshake p.few)) m).bytes
