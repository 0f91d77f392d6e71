-- Trial lines of messages, worked out by hand from the request: the bytes in question among other calls, and what they are to answer. (proofs/Trials.antt has the one
-- proof.) The device of these lines is 0xff00000000000002, its keyboard 5, its touchscreen 6 and its text 9 above 0xff00000000000000. Assumes nothing.
use Rattle.std.specs.Prelude.{ℕ, List, [], ◌∷◌, ◌++◌, replicate, take}
use Rattle.std.proofs.Math.Option.{none}
use Rattle.eiproto.specs.declared.eiproto_enum.DisconnectReason.{DisconnectReason}
use Rattle.eiproto.specs.declared.eiproto_enum.KeyState.{KeyState}
use Rattle.wire.specs.declared.ParseError.{ParseError}
use Rattle.model.specs.Call.{Kind, Input, Load, Plain, Call}
use Rattle.model.specs.Session.{Queued}
use Rattle.model.specs.Plan.{Result}
use Rattle.model.specs.Trials.{device, gives}
use Rattle.model_reads.specs.Read.{Entry}
use Rattle.model_reads.specs.Acts.{Act}
use Rattle.model_reads.specs.Trials.{Reply, Trial, call, next, key_at, framed, accepted, nothing, done, key, frame, trial}

-- ---- the words of the table

-- little-endian: a number below 256 in four bytes, 256 times a number below 256 and a number, and an object of the server's
abbrev word : ℕ → List ℕ
word n = n ∷ 0 ∷ 0 ∷ 0 ∷ []

abbrev long : ℕ → ℕ → List ℕ
long low high = low ∷ high ∷ 0 ∷ 0 ∷ []

abbrev server : ℕ → List ℕ
server n = n ∷ 0 ∷ 0 ∷ 0 ∷ 0 ∷ 0 ∷ 0 ∷ 0xff ∷ []

abbrev client : ℕ → List ℕ
client n = n ∷ replicate 7 0

abbrev header : (object : List ℕ) (length : List ℕ) (opcode : ℕ) → List ℕ
header object length opcode = object ++ (length ++ word opcode)

abbrev message : List ℕ → Act (Call Input)
message bytes = Act.message bytes 70 4096

-- key 30 on the keyboard, in a state
abbrev key_in : ℕ → List ℕ
key_in state = header (server 5) (word 24) 1 ++ (word 30 ++ word state)

abbrev sync : (callback : List ℕ) (version : ℕ) → List ℕ
sync callback version = header (server 0) (word 28) 0 ++ (callback ++ word version)

-- a Utf8 of so many bytes in all
abbrev utf8 : (length : ℕ) → List ℕ → List ℕ
utf8 length text = header (server 9) (word length) 2 ++ text

-- what is taken where nothing is written
abbrev takes : ℕ → Reply
takes n = Reply.message Result.accepted n []

abbrev refuses : ℕ → Reply
refuses n = Reply.message (Result.refused n) 0 []

abbrev text_at : ℕ → List ℕ → Reply
text_at time text = Reply.one (gives (Queued.timed device time (record { kind = Kind.TextUtf8; touch = 0; size = 2; load = Load.Text text })))

-- destroyed, and what `disconnected` writes: the device with its seven interfaces goes, then its seat, then the connection
abbrev gone : (object serial : ℕ) → List ℕ
gone object serial = 0x28 ∷ 0x0e ∷ 0xff ∷ (replicate 6 0 ++ (object ∷ 0 ∷ 0 ∷ 0 ∷ serial ∷ []))

abbrev disconnecting : List ℕ
disconnecting =
    gone 3 8 ++ (gone 4 9 ++ (gone 5 10 ++ (gone 6 11 ++ (gone 7 12 ++ (gone 8 13 ++ (gone 9 14 ++ (gone 2 15 ++ (gone 1 16
    ++ (0x70 ∷ 0x13 ∷ 0xff ∷ (replicate 10 0 ++ (16 ∷ replicate 5 0)))))))))))

-- ---- the table

abbrev pub trials : List Trial
trials =
    -- a key, alone and with bytes behind it, and its frame
    trial
    (message (key_in 1) ∷ message (key_in 0 ++ (1 ∷ 2 ∷ 3 ∷ 4 ∷ 5 ∷ [])) ∷ message (header (server 2) (word 28) 3 ++ (word 7 ++ (word 200 ++ word 0))) ∷ next ∷ next ∷ next ∷ [])
    (takes 24 ∷ takes 24 ∷ takes 28 ∷ key_at 200 30 KeyState.Press ∷ key_at 200 30 KeyState.Released ∷ framed 200 ∷ [])
    -- "one not yet whole answers WAIT and takes nothing"
    ∷ trial
    (message [] ∷ message (take 15 (key_in 1)) ∷ message (take 16 (key_in 1)) ∷ message (take 23 (key_in 1)) ∷ call (frame 9) ∷ next ∷ [])
    (Reply.waits ∷ Reply.waits ∷ Reply.waits ∷ Reply.waits ∷ accepted ∷ nothing ∷ [])
    -- "object and length are checked before waiting", in this order; never the opcode
    ∷ trial
    (message (header (client 99) (word 24) 1) ∷ message (header (client 99) (word 5) 1) ∷ message (header (client 0) (word 16) 1)
    ∷ message (header (server 5) (word 15) 1) ∷ message (header (server 5) (long 1 4) 1) ∷ message (header (server 5) (long 0 4) 1) ∷ message (header (server 5) (word 24) 2)
    ∷ message (header (server 5) (word 16) 2) ∷ [])
    (Reply.no_object ∷ Reply.no_object ∷ Reply.no_object
    ∷ Reply.malformed (ParseError.HeaderLength 15) ∷ Reply.malformed (ParseError.HeaderLength 1025) ∷ Reply.waits ∷ Reply.waits
    ∷ Reply.malformed (ParseError.InvalidOpcode 10 2) ∷ [])
    -- the arguments: no state 2, none missing, none too many
    ∷ trial
    (message (key_in 2) ∷ message (header (server 5) (word 20) 1 ++ word 30) ∷ message (header (server 5) (word 28) 1 ++ (word 30 ++ (word 1 ++ word 0)))
    ∷ message (header (server 5) (word 28) 1 ++ (word 30 ++ (word 2 ++ word 0))) ∷ [])
    (Reply.malformed (ParseError.InvalidVariant 2) ∷ Reply.malformed ParseError.EndOfMessage ∷ Reply.malformed (ParseError.MessageLength 32 28)
    ∷ Reply.malformed (ParseError.InvalidVariant 2) ∷ [])
    -- texts: "bad UTF-8 in a message is 23"; what closes and pads one is not looked at
    ∷ trial
    (message (utf8 24 (word 2 ++ (0x80 ∷ 0 ∷ 0 ∷ 0 ∷ []))) ∷ message (utf8 20 (word 0)) ∷ message (utf8 24 (word 1 ++ word 0)) ∷ message (utf8 24 (word 3 ++ (0x61 ∷ 0x62 ∷ 0xff ∷ 0xff ∷ [])))
    ∷ call (frame 9) ∷ next ∷ [])
    (Reply.malformed ParseError.Utf8 ∷ Reply.malformed ParseError.InvalidNull ∷ refuses 6 ∷ takes 24 ∷ accepted ∷ text_at 9 (0x61 ∷ 0x62 ∷ []) ∷ [])
    -- "25 INVALID_ID": an id is given once, in ascending order, and none of the server's; "A callback whose version was refused is not kept."
    ∷ trial
    (message (sync (client 5) 1) ∷ message (sync (client 5) 1) ∷ message (sync (client 0) 1) ∷ message (sync (server 0) 1) ∷ message (sync (client 9) 2) ∷ message (sync (client 9) 1)
    ∷ message (header (server 0) (word 32) 0 ++ (client 5 ++ (word 1 ++ word 0))) ∷ [])
    (Reply.message Result.accepted 28 (done 5) ∷ refuses 25 ∷ refuses 25 ∷ refuses 25 ∷ Reply.message (Result.refused_version 2 2) 0 [] ∷ Reply.message Result.accepted 28 (done 9)
    ∷ Reply.malformed (ParseError.MessageLength 36 32) ∷ [])
    -- the client's Disconnect ends no object, the station's does
    ∷ trial
    (message (header (server 0) (word 16) 1) ∷ message (header (server 0) (word 16) 1) ∷ Act.one (Call.plain (Plain.disconnected DisconnectReason.Disconnected none)) 70 4096
    ∷ message (header (server 0) (word 16) 1) ∷ message (key_in 1) ∷ [])
    (takes 16 ∷ takes 16
    ∷ Reply.one (record { outcome = Result.accepted; bytes = disconnecting; given = [] })
    ∷ Reply.no_object ∷ Reply.no_object ∷ [])
    -- "A refused message takes nothing"; a released interface lives no more
    ∷ trial
    (Act.read (replicate 64 (Entry.request (key KeyState.Press 30))) 70 4096 ∷ message (key_in 1) ∷ call (frame 9) ∷ message (key_in 1) ∷ message (header (server 5) (word 16) 0) ∷ message (key_in 1) ∷ [])
    (Reply.read 64 Result.accepted [] ∷ refuses 16 ∷ accepted ∷ takes 24 ∷ Reply.message Result.accepted 16 (gone 5 8) ∷ Reply.no_object ∷ [])
    ∷ []
