-- Worked messages, on a handshake that has given no id and on one whose Finish succeeded. Assumes nothing.
use Prim.Native.Nat.{ℕ, ◌+◌, ◌%◌, ◌/◌}
use mathlib.Core.List.{List, [], ◌∷◌, ◌++◌, map}
use mathlib.Core.Path.{◌≡◌, refl}
use lib.ListN.{take, replicate}
use Rattle.eiproto.specs.Interface.{ascii}
use Rattle.eiproto.specs.declared.eiproto_enum.ContextType.{ContextType}
use Rattle.wire.specs.Ids.{first_server_id}
use Rattle.wire.specs.declared.ParseError.{ParseError}
use Rattle.handshake.specs.Handshake.{Message}
use Rattle.handshake_messages.specs.Reading.{reading_of, request_in}
use Rattle.parse.specs.declared.First.{First}
use Rattle.handshake_messages.specs.declared.Unhanded.{Unhanded}
use Rattle.std.specs.Prelude.{Ok, Err}
use Rattle.std.specs.Prelude as rust

-- what is read: a request with its length, or what else it is
data Seen : Type 0 where
  request : Message → (length : ℕ) → Seen
  other : Unhanded → Seen

seen : List ℕ → rust.Result First Unhanded → Seen
unfolding request_in
seen m (Ok x) = Seen.request (request_in x.arguments (take x.length m)) x.length
seen m (Err why) = Seen.other why

read_at : (next : ℕ) → List ℕ → Seen
unfolding seen reading_of
read_at next m = seen m (reading_of next m)

word : ℕ → List ℕ
word n = n % 256 ∷ n / 256 % 256 ∷ 0 ∷ 0 ∷ []

-- a message on object 0, and on the connection
on : (length opcode : ℕ) → List ℕ → List ℕ
unfolding word
on n op rest = replicate 8 0 ++ (word n ++ (word op ++ rest))

connected : (length opcode : ℕ) → List ℕ → List ℕ
unfolding word
connected n op rest = replicate 7 0 ++ (0xff ∷ (word n ++ (word op ++ rest)))

malformed : ParseError → Seen
malformed e = Seen.other (Unhanded.Malformed e)

-- WAIT; 24 before a wrong length; a length below 16 and above 1,024; the opcode and the arguments are not looked at before the message is whole
headers : map (read_at first_server_id)
    ([] ∷ replicate 15 0 ∷ (0xe7 ∷ (3 ∷ replicate 6 0) ++ (word 5 ++ word 0)) ∷ connected 16 1 [] ∷ on 15 0 [] ∷ on 1025 0 [] ∷ on 1024 9 [] ∷ on 20 9 (replicate 3 0)
    ∷ on 20 9 (replicate 4 0) ∷ [])
    ≡ Seen.other Unhanded.Wait ∷ Seen.other Unhanded.Wait ∷ Seen.other Unhanded.NoObject ∷ Seen.other Unhanded.NoObject ∷ malformed (ParseError.HeaderLength 15)
    ∷ malformed (ParseError.HeaderLength 1025) ∷ Seen.other Unhanded.Wait ∷ Seen.other Unhanded.Wait ∷ malformed (ParseError.InvalidOpcode 0 9) ∷ []
unfolding read_at on connected word malformed
headers = refl

-- the handshake's five requests, the first with bytes behind it; a text's closing and padding bytes are free
requests : map (read_at first_server_id)
    (on 20 0 (word 7 ++ replicate 5 1) ∷ on 16 1 [] ∷ on 20 2 (word 2) ∷ on 24 3 (word 3 ++ (0x61 ∷ 0x62 ∷ 0xff ∷ 0xff ∷ []))
    ∷ on 40 4 (word 14 ++ (ascii "ei_connection" ++ (0 ∷ 0 ∷ 0 ∷ word 258))) ∷ [])
    ≡ Seen.request (Message.HandshakeVersion 7) 20 ∷ Seen.request Message.Finish 16 ∷ Seen.request (Message.Context ContextType.Sender) 20
    ∷ Seen.request (Message.Name (0x61 ∷ 0x62 ∷ [])) 24 ∷ Seen.request (Message.InterfaceVersion (ascii "ei_connection") 258) 40 ∷ []
unfolding read_at on word ascii
requests = refl

-- what is malformed in them
faults : map (read_at first_server_id)
    (on 16 0 [] ∷ on 20 1 (word 0) ∷ on 20 2 (word 3) ∷ on 20 3 (word 0) ∷ on 24 3 (word 2 ++ (0x80 ∷ 0 ∷ 0 ∷ 0 ∷ [])) ∷ on 20 3 (word 5) ∷ [])
    ≡ malformed ParseError.EndOfMessage ∷ malformed (ParseError.MessageLength 24 20) ∷ malformed (ParseError.InvalidVariant 3) ∷ malformed ParseError.InvalidNull
    ∷ malformed ParseError.Utf8 ∷ malformed ParseError.EndOfMessage ∷ []
unfolding read_at on word malformed
faults = refl

-- after a Finish that succeeded object 0 is gone and the connection lives: its requests are another's. 25 for the ids that are no client's, behind 23
after : map (read_at (first_server_id + 1))
    (on 16 1 [] ∷ connected 28 0 (5 ∷ replicate 7 0 ++ word 1) ∷ connected 16 1 [] ∷ connected 28 0 (replicate 8 0 ++ word 1)
    ∷ connected 28 0 (replicate 7 0 ++ (0xff ∷ word 1)) ∷ connected 28 0 (replicate 7 0xff ++ (0xfe ∷ word 1)) ∷ connected 32 0 (replicate 8 0 ++ (word 1 ++ word 0)) ∷ [])
    ≡ Seen.other Unhanded.NoObject ∷ Seen.request (Message.Other []) 28 ∷ Seen.request (Message.Other []) 16 ∷ Seen.other Unhanded.InvalidId
    ∷ Seen.other Unhanded.InvalidId ∷ Seen.request (Message.Other []) 28 ∷ malformed (ParseError.MessageLength 36 32) ∷ []
unfolding read_at on connected word malformed
after = refl
