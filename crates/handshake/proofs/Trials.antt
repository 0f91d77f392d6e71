-- Worked cases: a whole handshake, call by call, as the scope has it answered; and the last ids. Assumes nothing.
use Prim.Native.Nat.{ℕ}
use mathlib.Core.List.{List, [], ◌∷◌, ◌++◌, map}
use mathlib.Core.Option.{none, some}
use mathlib.Core.Path.{◌≡◌, refl}
use lib.ListN.{replicate}
use Rattle.eiproto.specs.Interface.{ascii}
use Rattle.eiproto.specs.declared.eiproto_enum.ContextType.{ContextType}
use Rattle.handshake.specs.Handshake.{Handshake, Message, Result, Step, finish}
use Rattle.handshake.specs.Run.{Call, trail}

abbrev Answered : Type 0
Answered = Result × List ℕ

answers : List Step → List Answered
answers ss = map (λ (s : Step). (s.outcome, s.bytes)) ss

call : ℕ → Message → Call
call room r = record { request = r; room = room }

version : List ℕ → ℕ → Message
version name v = Message.InterfaceVersion name v

-- the record of kind 17, 15 bytes long, of object 0: interface i at version v
version_record : (i v : ℕ) → List ℕ
version_record i v = 0x88 ∷ 0x0f ∷ 0 ∷ 0 ∷ 0 ∷ 0 ∷ 0 ∷ 0 ∷ 0 ∷ 0 ∷ i ∷ 0 ∷ 0 ∷ 0 ∷ v ∷ []

refused : ℕ → Answered
refused n = (Result.refused n, [])

accepted : Answered
accepted = (Result.accepted, [])

-- a start that has room: kind 16, 14 bytes, object 0, version 1
starts : answers (trail 7 14 []) ≡ (Result.accepted, 0x80 ∷ 0x0e ∷ 0 ∷ 0 ∷ 0 ∷ 0 ∷ 0 ∷ 0 ∷ 0 ∷ 0 ∷ 0 ∷ 0 ∷ 0 ∷ 1 ∷ []) ∷ []
unfolding answers trail
starts = refl

-- refused with 19, a start hands back a fresh handshake; then 7, 10, 9, 11, 8; the lower version wins, a repeated name overwrites,
-- version 0 can be negotiated; a Finish that lacks ei_pingpong reports all the same; the one that succeeds, and one more
calls : List Call
unfolding call version ascii
calls =
    map (call 4096)
    (Message.Other [] ∷ Message.Other [] ∷ Message.Other [] ∷ Message.Other (0x80 ∷ []) ∷ Message.Finish ∷ Message.HandshakeVersion 1 ∷ Message.HandshakeVersion 77
    ∷ Message.Name (replicate 255 0x61) ∷ Message.Name (replicate 255 0x80) ∷ Message.Name [] ∷ Message.Name (0x61 ∷ [])
    ∷ Message.Name (replicate 255 0x61) ∷ Message.Context ContextType.Sender ∷ Message.Context ContextType.Sender
    ∷ version (ascii "ei_connection") 1 ∷ version (ascii "ei_handshake") 1 ∷ version (replicate 300 0x61) 1 ∷ version (0xff ∷ []) 1
    ∷ version (ascii "ei_device") 100 ∷ version (ascii "ei_device") 2 ∷ version (ascii "ei_touchscreen") 0 ∷ version (ascii "ei_callback") 1 ∷ [])
    ++ (call 59 Message.Finish ∷ call 60 Message.Finish ∷ call 0 (version (ascii "ei_pingpong") 0xffff_ffff) ∷ call 100 Message.Finish
    ∷ call 101 Message.Finish ∷ call 0 Message.Finish ∷ [])

whole-handshake : answers (trail 1000 13 calls)
    ≡ refused 19
    ∷ (refused 7 ∷ refused 7 ∷ refused 7 ∷ refused 10 ∷ refused 9 ∷ accepted ∷ accepted ∷ refused 11 ∷ refused 10 ∷ accepted ∷ refused 8 ∷ refused 11 ∷ accepted ∷ refused 8
    ∷ accepted ∷ accepted ∷ accepted ∷ refused 10 ∷ accepted ∷ accepted ∷ accepted ∷ accepted ∷ [])
    ++ (refused 19 ∷ (Result.refused 9, version_record 1 1 ++ (version_record 2 1 ++ (version_record 5 2 ++ version_record 11 0))) ∷ accepted ∷ refused 19
    ∷ (
      Result.finished
          (record {
            connection = 0xff00_0000_0000_0000;
            name = some [];
            context_type = ContextType.Sender;
            versions = some 1 ∷ some 1 ∷ some 1 ∷ none ∷ some 2 ∷ none ∷ none ∷ none ∷ none ∷ none ∷ some 0 ∷ none ∷ [];
            serial = 1000;
            next_id = 0xff00_0000_0000_0001;
          }),
      version_record 1 1 ++ (version_record 2 1 ++ (version_record 3 1 ++ (version_record 5 2 ++ (version_record 11 0
          ++ (0x90 ∷ 0x1a ∷ 0 ∷ 0 ∷ 0 ∷ 0 ∷ 0 ∷ 0 ∷ 0 ∷ 0 ∷ 0xff ∷ 0 ∷ 0 ∷ 0 ∷ 0 ∷ 0 ∷ 0 ∷ 0 ∷ 0 ∷ 0 ∷ 0x03 ∷ 0xe8 ∷ 0 ∷ 0 ∷ 0 ∷ 1 ∷ []))))),
    )
    ∷ refused 9 ∷ [])
unfolding answers calls trail refused accepted version_record
whole-handshake = refl

-- The id 2^64 - 1 is never given: the one before is the last, and then it is 20, even with no room. No context type is Receiver.
ready : (next_id : ℕ) → Handshake
ready n = record { name = none; context_type = none; versions = some 1 ∷ some 1 ∷ some 1 ∷ replicate 9 none; initial_serial = 5; next_id = n }

last_id_lem : (finish (ready 0xffff_ffff_ffff_fffe) 71).outcome
    ≡ Result.finished
    (record {
      connection = 0xffff_ffff_ffff_fffe;
      name = none;
      context_type = ContextType.Receiver;
      versions = some 1 ∷ some 1 ∷ some 1 ∷ replicate 9 none;
      serial = 5;
      next_id = 0xffff_ffff_ffff_ffff;
    })
unfolding finish ready
last_id_lem = refl

ids_spent_lem : (finish (ready 0xffff_ffff_ffff_ffff) 0).outcome ≡ Result.refused 20
unfolding finish ready
ids_spent_lem = refl
