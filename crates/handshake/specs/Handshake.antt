-- The server half of the handshake: `EisHandshaker` of src/handshake.rs, with its refusals. Assumes nothing.
use Rattle.std.specs.Prelude.{ℕ, ◌+◌, ◌-◌, min, Bool, true, false, ◌&&◌, cond, List, [], ◌∷◌, ◌++◌, ltb, length, get_or, set, replicate}
use Rattle.std.proofs.Math.Option.{Option, none, some}
use Rattle.eiproto.specs.Interface.{ei_connection, ei_callback, ei_pingpong, interface_count, lookup, server_version}
use Rattle.eiproto.specs.declared.eiproto_enum.ContextType.{ContextType}
use Rattle.utf8.specs.Rfc3629.{is_utf8}
use Rattle.wire.specs.Ids.{first_server_id}
use Rattle.wire.specs.Record.{event_record}
use Rattle.wire.specs.declared.event.Event.{Event}

-- a handshake under way
pub record Handshake : Type 0 where
  pub name : Option (List ℕ)
  pub context_type : Option ContextType
  -- of the twelve interfaces, in the order of their numbers: the negotiated version, or none
  pub versions : List (Option ℕ)
  pub initial_serial : ℕ
  pub next_id : ℕ

-- what a client may send
pub data Message : Type 0 where
  HandshakeVersion : (version : ℕ) → Message
  Finish : Message
  Context : (context_type : ContextType) → Message
  Name : (name : List ℕ) → Message
  InterfaceVersion : (name : List ℕ) (version : ℕ) → Message
  -- a request of another interface, with the text that it carries, if any
  Other : (text : List ℕ) → Message

-- what a successful Finish settles (`EisHandshakeResp`): the session goes on after its connection's id
pub record Response : Type 0 where
  pub connection : ℕ
  pub name : Option (List ℕ)
  pub context_type : ContextType
  pub versions : List (Option ℕ)
  pub serial : ℕ
  pub next_id : ℕ

pub data Result : Type 0 where
  accepted : Result
  refused : (number : ℕ) → Result
  finished : Response → Result

-- what a call comes to: the handshake after it, the answer, the event bytes
pub record Step : Type 0 where
  pub handshake : Handshake
  pub outcome : Result
  pub bytes : List ℕ

-- ---- the interfaces

unfoldable pub no_versions : List (Option ℕ)
no_versions = replicate interface_count none

-- by an interface's number, from 1
unfoldable pub version_of : List (Option ℕ) → ℕ → Option ℕ
version_of vs i = get_or vs (i - 1) none

unfoldable pub is_some : Option ℕ → Bool
is_some none = false
is_some (some v) = true

-- "Unknown interface names are ignored; the lower of client's and server's version wins; a repeated name overwrites".
-- Version 0 can be negotiated: that an interface is not is none, and not 0
unfoldable pub negotiate : Option ℕ → (version : ℕ) → List (Option ℕ) → List (Option ℕ)
unfolding server_version
negotiate none version vs = vs
negotiate (some i) version vs = set vs (i - 1) (some (min version (server_version i)))

-- "Handshake events carry object id 0."
unfoldable pub sent : Event → List ℕ
unfolding event_record
sent event = event_record 0 event []

unfoldable pub report_one : (interface : ℕ) → Option ℕ → List ℕ
unfolding sent
report_one i none = []
report_one i (some v) = sent (Event.InterfaceVersion i v)

-- "Finish reports in the order below", that of the interface numbers, here from i on
unfoldable pub report : (i : ℕ) → List (Option ℕ) → List ℕ
unfolding report_one
report i [] = []
report i (v ∷ vs) = report_one i v ++ report (i + 1) vs

-- ---- the calls

unfoldable pub refuse : Handshake → ℕ → Step
refuse h n = record { handshake = h; outcome = Result.refused n; bytes = [] }

unfoldable pub accept : Handshake → Step
accept h = record { handshake = h; outcome = Result.accepted; bytes = [] }

-- "10 BAD_UTF8: a lent text that is not UTF-8", with every request that carries one
unfoldable pub check_utf8 : Handshake → List ℕ → Step → Step
unfolding is_utf8 refuse
check_utf8 h text step = cond (is_utf8 text) step (refuse h 10)

-- "19 SHORT_OUT: `out` .. is shorter than what would be written"
unfoldable pub check_room : Handshake → (room : ℕ) → Step → Step
unfolding refuse
check_room h room step = cond (ltb room (length step.bytes)) (refuse h 19) step

unfoldable pub fresh_handshake : (serial : ℕ) → Handshake
unfolding no_versions
fresh_handshake serial = record { name = none; context_type = none; versions = no_versions; initial_serial = serial; next_id = first_server_id }

-- "starting sends handshake version 1"
unfoldable pub begun : (serial : ℕ) → Step
unfolding fresh_handshake sent
begun serial = record { handshake = fresh_handshake serial; outcome = Result.accepted; bytes = sent (Event.HandshakeVersion 1) }

-- "refused with 19, it still hands back a fresh handshake"
unfoldable pub start : (serial room : ℕ) → Step
unfolding check_room begun
start serial room = check_room (fresh_handshake serial) room (begun serial)

-- "8 DUPLICATE_EVENT: a second Name or ContextType"
unfoldable pub set_name : Handshake → List ℕ → Option (List ℕ) → Step
unfolding accept refuse
set_name h name none =
    accept (record { name = some name; context_type = h.context_type; versions = h.versions; initial_serial = h.initial_serial; next_id = h.next_id })
set_name h name (some old) = refuse h 8

unfoldable pub set_context : Handshake → ContextType → Option ContextType → Step
unfolding accept refuse
set_context h c none =
    accept (record { name = h.name; context_type = some c; versions = h.versions; initial_serial = h.initial_serial; next_id = h.next_id })
set_context h c (some old) = refuse h 8

-- "context type defaults to Receiver"
unfoldable pub or_receiver : Option ContextType → ContextType
or_receiver none = ContextType.Receiver
or_receiver (some c) = c

-- "9 MISSING_INTERFACE: Finish without `ei_connection`, `ei_pingpong` or `ei_callback`"
unfoldable pub complete : List (Option ℕ) → Bool
unfolding version_of is_some
complete vs = is_some (version_of vs ei_connection) && (is_some (version_of vs ei_pingpong) && is_some (version_of vs ei_callback))

-- what a Finish settles: the connection is the next object, and the ids go on after it
unfoldable pub settled : Handshake → Response
unfolding or_receiver
settled h =
    record {
      connection = h.next_id;
      name = h.name;
      context_type = or_receiver h.context_type;
      versions = h.versions;
      serial = h.initial_serial;
      next_id = h.next_id + 1;
    }

-- The connection record has the initial serial and version 1. After success the handshake knows no interfaces, and has given an id
unfoldable pub concluded : Handshake → Step
unfolding no_versions report sent settled
concluded h =
    record {
      handshake = record { name = h.name; context_type = h.context_type; versions = no_versions; initial_serial = h.initial_serial; next_id = h.next_id + 1 };
      outcome = Result.finished (settled h);
      bytes = report 1 h.versions ++ sent (Event.Connection h.next_id h.initial_serial 1);
    }

-- "9 MISSING_INTERFACE: .. The interface-version events are written and counted all the same." The handshake keeps its interfaces, so
-- that a later Finish reports them again
unfoldable pub missing : Handshake → Step
unfolding report
missing h = record { handshake = h; outcome = Result.refused 9; bytes = report 1 h.versions }

-- 20, then 19, then 9. "20 IDS_SPENT: the next object id after the call would exceed 2^64 − 1", so the id 2^64 − 1 is never given.
-- A Finish that ends in 9 gives no id, and needs room for its own records alone
unfoldable pub finish : Handshake → (room : ℕ) → Step
unfolding complete refuse check_room concluded missing
finish h room =
    cond (complete h.versions)
    (cond (ltb 0xffff_ffff_ffff_ffff (h.next_id + 1)) (refuse h 20) (check_room h room (concluded h)))
    (check_room h room (missing h))

-- `EisHandshaker::handle_request`, on a handshake whose stored count is within its limit
unfoldable pub handle_request : Handshake → Message → (room : ℕ) → Step
unfolding accept refuse finish set_name set_context check_utf8 negotiate lookup
handle_request h (Message.HandshakeVersion v) room = accept h
handle_request h Message.Finish room = finish h room
handle_request h (Message.Context c) room = set_context h c h.context_type
-- "11 NAME_LONG: a client .. name .. above 254 bytes"
handle_request h (Message.Name name) room = check_utf8 h name (cond (ltb 254 (length name)) (refuse h 11) (set_name h name h.name))
-- a name of any length is looked up: 11 is not for interfaces
handle_request h (Message.InterfaceVersion name v) room =
    check_utf8 h name
    (accept (record { name = h.name; context_type = h.context_type; versions = negotiate (lookup name) v h.versions; initial_serial = h.initial_serial; next_id = h.next_id }))
-- "7 NON_HANDSHAKE: another request during the handshake"
handle_request h (Message.Other text) room = check_utf8 h text (refuse h 7)
