-- Trial lines of whole reads, worked out by hand: the reads in question among other calls, and what they are to answer. (proofs/Trials.antt has the one
-- proof.) Assumes nothing.
use Rattle.std.specs.Prelude.{ℕ, replicate}
use mathlib.Core.List.{List, [], ◌∷◌, ◌++◌, map}
use Rattle.eiproto.specs.declared.eiproto_enum.KeyState.{KeyState}
use Rattle.eiproto.specs.declared.event.DeviceCapability.{DeviceCapability}
use Rattle.std.specs.Float.{nan}
use Rattle.wire.specs.declared.ParseError.{ParseError}
use Rattle.model.specs.Call.{Kind, Input, Load, Plain, Call, Turn, split}
use Rattle.model.specs.Session.{Queued, Session, View, fresh, view}
use Rattle.model.specs.Plan.{Result, records}
use Rattle.model.specs.Step.{step}
use Rattle.model.specs.Trials.{Expected, answer_of, versions, seat, device, keyboard, touchscreen, text, opening, says, gives, frame_at}
use Rattle.model_reads.specs.Read.{Entry, Loaded, loaded, handed_over}
use Rattle.model_reads.specs.Message.{Reading, map_reading, taken_of}
use Rattle.model_reads.specs.Acts.{Act, map_act, split_at, loaded_by, after_act}

-- what a call or a read answered, with the event bytes that it wrote; of a message what its call answered and how many bytes were taken, or why it is no call
pub data Reply : Type 0 where
  one : Expected → Reply
  read : (accepted : ℕ) → Result → (bytes : List ℕ) → Reply
  message : Result → (taken : ℕ) → (bytes : List ℕ) → Reply
  waits : Reply
  no_object : Reply
  malformed : ParseError → Reply

-- calls and reads behind an opening, and what they are to answer
pub record Trial : Type 0 where
  pub acts : List (Act (Call Input))
  pub replies : List Reply

-- ---- the words of the table: the clock stands at 70, and `out` has room enough where no length is said

abbrev pub call : Call Input → Act (Call Input)
call c = Act.one c 70 4096

abbrev reads : List (Entry (Call Input)) → Act (Call Input)
reads es = Act.read es 70 4096

abbrev pub key : (state : KeyState) → ℕ → Call Input
key state k = Call.timed keyboard 1 (Input.Key k state)

abbrev press : ℕ → Entry (Call Input)
press k = Entry.request (key KeyState.Press k)

abbrev pub frame : ℕ → Call Input
frame time = Call.plain (Plain.device_frame device 7 time)

abbrev bad_bind : Entry (Call Input)
bad_bind = Entry.request (Call.plain (Plain.bind seat 128))

abbrev utf8 : Call Input
utf8 = Call.timed text 1 (Input.Utf8 (97 ∷ []))

abbrev pub next : Act (Call Input)
next = call (Call.plain Plain.next_request)

abbrev pub key_at : (time key : ℕ) → KeyState → Reply
key_at time k state = Reply.one (gives (Queued.timed device time (record { kind = Kind.KeyboardKey; touch = 0; size = 0; load = Load.KeyPress k state })))

abbrev pub framed : ℕ → Reply
framed time = Reply.one (gives (frame_at 7 time))

abbrev pub accepted : Reply
accepted = Reply.one (says Result.accepted)

abbrev pub nothing : Reply
nothing = Reply.one (says Result.none)

-- a read that writes nothing
abbrev quiet : ℕ → Result → Reply
quiet n o = Reply.read n o []

-- the record that answers a Sync
abbrev pub done : ℕ → List ℕ
done callback = 0x78 ∷ 0x12 ∷ (replicate 7 0 ++ (callback ∷ replicate 8 0))

abbrev pub trial : List (Act (Call Input)) → List Reply → Trial
trial acts replies = record { acts = acts; replies = replies }

-- ---- the table

abbrev pub trials : List Trial
trials =
    -- an empty list
    trial (reads [] ∷ []) (quiet 0 Result.accepted ∷ [])
    -- a key pressed and released, and its frame
    ∷ trial
    (reads (press 30 ∷ Entry.request (key KeyState.Released 30) ∷ Entry.request (frame 500) ∷ []) ∷ next ∷ next ∷ next ∷ [])
    (quiet 3 Result.accepted ∷ key_at 500 30 KeyState.Press ∷ key_at 500 30 KeyState.Released ∷ framed 500 ∷ [])
    -- "nothing after that is tried", and "undoes nothing accepted before it"
    ∷ trial
    (reads (press 30 ∷ bad_bind ∷ press 31 ∷ []) ∷ call (frame 9) ∷ next ∷ next ∷ next ∷ [])
    (quiet 1 (Result.refused 3) ∷ accepted ∷ key_at 9 30 KeyState.Press ∷ framed 9 ∷ nothing ∷ [])
    -- "each with what is left of `out`"
    ∷ trial
    (Act.read (map (λ id. Entry.request (Call.plain (Plain.sync id 1))) (5 ∷ 6 ∷ [])) 70 18 ∷ Act.read (map (λ id. Entry.request (Call.plain (Plain.sync id 1))) (5 ∷ 6 ∷ [])) 70 36 ∷ [])
    (Reply.read 1 (Result.refused 19) (done 5) ∷ Reply.read 2 Result.accepted (done 5 ++ done 6) ∷ [])
    -- a part that leaves the texts, behind a request that is accepted and behind one that is refused
    ∷ trial
    (reads (press 30 ∷ Entry.bad_part ∷ press 31 ∷ []) ∷ call (frame 9) ∷ next ∷ next ∷ next ∷ [])
    (quiet 1 (Result.refused 22) ∷ accepted ∷ key_at 9 30 KeyState.Press ∷ framed 9 ∷ nothing ∷ [])
    ∷ trial (reads (bad_bind ∷ Entry.bad_part ∷ []) ∷ []) (quiet 0 (Result.refused 3) ∷ [])
    -- 65 keys, and one more
    ∷ trial (reads (replicate 65 (press 30)) ∷ reads (press 30 ∷ []) ∷ []) (quiet 64 (Result.refused 16) ∷ quiet 0 (Result.refused 16) ∷ [])
    -- a refusal with its details
    ∷ trial
    (reads (Entry.request (Call.timed touchscreen 2 (Input.Down 1 nan nan)) ∷ Entry.request (Call.timed touchscreen 1 (Input.Cancel 1)) ∷ []) ∷ [])
    (quiet 1 (Result.refused_version 11 1) ∷ [])
    -- "ignored ones included": a key of a keyboard that was released
    ∷ trial
    (reads (press 30 ∷ Entry.request (Call.plain (Plain.interface_release DeviceCapability.Keyboard keyboard)) ∷ press 31 ∷ []) ∷ [])
    (Reply.read 3 Result.accepted (0x28 ∷ 0x0e ∷ 0xff ∷ (replicate 6 0 ++ (5 ∷ 0 ∷ 0 ∷ 0 ∷ 8 ∷ []))) ∷ [])
    -- 31 texts stand
    ∷ trial (reads (replicate 31 (Entry.request utf8)) ∷ reads (replicate 2 (Entry.request utf8)) ∷ []) (quiet 31 Result.accepted ∷ quiet 1 (Result.refused 18) ∷ [])
    ∷ []

-- ---- what the definitions compute

unfoldable message_reply : Reading (Loaded Load) → (now room : ℕ) → Session Load → Reply
unfolding step records taken_of
message_reply Reading.wait now room s = Reply.waits
message_reply Reading.no_object now room s = Reply.no_object
message_reply (Reading.malformed e) now room s = Reply.malformed e
message_reply (Reading.request c n) now room s =
    let r = step (split_at c now room) s in Reply.message r.outcome (taken_of r.outcome n) (records r.events)

-- a seat with all capabilities and a device with all seven interfaces
unfoldable opened : Session Load
unfolding fresh versions step split
opened = after opening (fresh 0xff00_0000_0000_0000 7 seat versions)
  where
    after : List Turn → Session Load → Session Load
    after [] s = s
    after (t ∷ ts) s = after ts (step (split t) s).session

-- `reads` is how bytes read in a session
module _ (reads : View → List ℕ → Reading (Call Input)) where
  unfoldable reply_of : Act (Loaded Load) → Session Load → Reply
  unfolding answer_of step handed_over records message_reply map_reading loaded view
  reply_of (Act.one c now room) s = Reply.one (answer_of (step (split_at c now room) s))
  reply_of (Act.read es now room) s = let r = handed_over es now room s in Reply.read r.accepted r.outcome (records r.events)
  reply_of (Act.message bytes now room) s = message_reply (loaded_by reads (view s) bytes) now room s

  unfoldable replies_of : List (Act (Loaded Load)) → Session Load → List Reply
  unfolding reply_of after_act
  replies_of [] s = []
  replies_of (x ∷ xs) s = reply_of x s ∷ replies_of xs (after_act (loaded_by reads) x s)

  unfoldable pub computed : Trial → List Reply
  unfolding replies_of opened map_act loaded
  computed t = replies_of (map (map_act loaded) t.acts) opened

unfoldable pub expected : Trial → List Reply
expected t = t.replies
