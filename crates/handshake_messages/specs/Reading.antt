-- A client's message during the handshake: how the first of a lent slice is read, and what is promised of a call on it. Assumes nothing.
use Rattle.std.specs.Prelude.{ℕ, ◌%◌, ◌≤◌, ◌≡◌, Bool, true, false, cond, ◌&&◌, List, [], ◌∷◌, eqb, leb, ltb}
use Rattle.std.specs.Prelude.{Some, None, Ok, Err}
use Rattle.std.specs.Prelude as rust
use lib.ListN.{length, get_or, take, drop}
use Rattle.eiproto.specs.Interface.{ei_connection}
use Rattle.eiproto.specs.declared.eiproto_enum.ContextType.{ContextType}
use Rattle.wire.specs.Ids.{first_server_id}
use Rattle.std.specs.Prelude as rust
use Rattle.parse.specs.First.{ReadFirst, first_of}
use Rattle.parse.specs.Parse.{le64}
use Rattle.parse.specs.declared.Arguments.{Arguments}
use Rattle.handshake.specs.Handshake as paper
use Rattle.handshake.specs.View.{view_of, is_sound, is_refusal, request_of, unfinished, Done}
use Rattle.handshake.specs.declared.handshake.EisHandshaker.{EisHandshaker}
use Rattle.handshake.specs.declared.handshake.HandshakeError.{HandshakeError}
use Rattle.parse.specs.declared.First.{First}
use Rattle.handshake_messages.specs.declared.Unhanded.{Unhanded}
use Rattle.handshake_messages.specs.declared.HandshakeCall.{HandshakeCall}
use Rattle.handshake_messages.specs.declared.HandshakeReceived.{HandshakeReceived}

-- ---- the header: "object id 64, length 32 WITH the 16 of the header, opcode 32"

-- "24 NO_OBJECT, the addressed id not alive": object 0, the handshake's, lives while no id was given, and the ids that were given are connections
unfoldable pub object_of : (next id : ℕ) → rust.Option ℕ
object_of next id =
    cond (eqb id 0)
    (cond (eqb next first_server_id) (Some 0) None)
    (cond (leb first_server_id id && ltb id next) (Some ei_connection) None)

-- ---- a whole message

-- the number of a Sync
abbrev pub sync : ℕ
sync = 5

-- "25 INVALID_ID, exactly when `new_peer_object` refuses": a client's ids start at 1, and the server's are not the client's
unfoldable pub is_peer_id : ℕ → Bool
is_peer_id id = ltb 0 id && ltb id first_server_id

-- a request's arguments with the length of its message
abbrev pub whole : Arguments → (length : ℕ) → rust.Result First Unhanded
whole a n = Ok (record { arguments = a; length = n })

unfoldable pub check_id : ReadFirst → rust.Result First Unhanded
unfolding is_peer_id
check_id (Ok None) = Err Unhanded.Wait
check_id (Err e) = Err (Unhanded.Malformed e)
check_id (Ok (Some f)) =
    let a = f.arguments in
    cond (eqb a.request sync) (cond (is_peer_id a.first) (whole a f.length) (Err Unhanded.InvalidId)) (whole a f.length)

-- its length and its arguments, by `first_of` of parse/specs/First
unfoldable pub body_read : rust.Option ℕ → (message : List ℕ) → rust.Result First Unhanded
unfolding first_of check_id
body_read None m = Err Unhanded.NoObject
body_read (Some interface) m = check_id (first_of interface m)

unfoldable pub reading_of : (next : ℕ) → (message : List ℕ) → rust.Result First Unhanded
unfolding le64 object_of body_read
reading_of next m = cond (ltb (length m) 16) (Err Unhanded.Wait) (body_read (object_of next (le64 m 0)) m)

-- HOW A MESSAGE IS READ. "Fewer than 16 bytes: WAIT. From 16 on: 24; then HeaderLength; then WAIT; then the rest of 23; then 25"
abbrev pub handshake_reading : paper.Handshake → (message : List ℕ) → rust.Result First Unhanded
handshake_reading h m = reading_of h.next_id m

-- ---- the request that it stands for

-- 1 and 2: any other number is an InvalidVariant
abbrev pub context_type_in : ℕ → ContextType
context_type_in n = cond (eqb n 1) ContextType.Receiver ContextType.Sender

-- the handshake's requests by their numbers, with these arguments: handshake_version, finish, context_type, name, interface_version. A version has 32 bits
abbrev pub requests_in : Arguments → (message : List ℕ) → List paper.Message
requests_in a m =
    paper.Message.HandshakeVersion (a.first % 4294967296)
    ∷ paper.Message.Finish
    ∷ paper.Message.Context (context_type_in a.first)
    ∷ paper.Message.Name (take a.length (drop a.start m))
    ∷ paper.Message.InterfaceVersion (take a.length (drop a.start m)) (a.first % 4294967296)
    ∷ []

-- a connection's are another's, and carry no text
unfoldable pub request_in : Arguments → (message : List ℕ) → paper.Message
request_in a m = get_or (requests_in a m) a.request (paper.Message.Other [])

-- the code's request with the text that is lent beside it
pub record Calls (a : Arguments) (r : HandshakeCall) : Type 0 where
  pub request : (message : List ℕ) → request_of r.request (take r.length (drop a.start message)) ≡ request_in a message
  pub length : r.length ≤ a.length

-- ---- what is promised

-- what became of a message: nothing more where its request was handed on, and else why it was not
abbrev pub Told : Type 0
Told = rust.Result (Unit {0}) Unhanded

abbrev pub is_handed : Told → Bool
is_handed (Ok u) = true
is_handed (Err why) = false

-- nothing was handed on: the handshake is as it was, and so is every byte of `out`
abbrev pub Nothing : EisHandshaker → (out later : List ℕ) → Unhanded → HandshakeReceived → Type 0
Nothing h out later why r = (r ≡ record { told = Err why; answer = unfinished h (Ok None) 0; taken = 0 }) × (later ≡ out)

-- a request was handed on: "the answer gives its length as taken", and "a refused message takes nothing", 9 too
pub record HandedOn (h : EisHandshaker) (request : paper.Message) (length : ℕ) (out later : List ℕ) (r : HandshakeReceived) : Type 0 where
  pub told : r.told ≡ Ok tt
  pub done : Done h out later (paper.handle_request (view_of h) request (lib.ListN.length out)) r.answer
  pub taken : r.taken ≡ cond (is_refusal r.answer.outcome) 0 length

abbrev pub Follows : rust.Result First Unhanded → EisHandshaker → (message out later : List ℕ) → HandshakeReceived → Type 0
Follows (Ok x) h m out later r = HandedOn h (request_in x.arguments (take x.length m)) x.length out later r
Follows (Err why) h m out later r = Nothing h out later why r

-- 21 before all else
pub record Received (h : EisHandshaker) (message out later : List ℕ) (r : HandshakeReceived) : Type 0 where
  pub damaged : is_sound h ≡ false
      → (r ≡ record { told = Ok tt; answer = unfinished h (Err HandshakeError.BadState) 0; taken = 0 }) × (later ≡ out)
  pub received : is_sound h ≡ true → Follows (handshake_reading (view_of h) message) h message out later r
