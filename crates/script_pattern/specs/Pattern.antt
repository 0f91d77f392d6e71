-- Patterns: the words of a line, with marks where values stand. Assumes nothing.
use Rattle.std.specs.Prelude.{ℕ, cond, List, [], ◌∷◌, ◌++◌, eqb, get_or, drop}
use Prim.Native.String.{String}
use Rattle.eiproto.specs.Interface.{ascii, interface_name}
use Rattle.script_pattern.specs.Digits.{hexadecimal, ident, decimal, escaped}
use Rattle.script_pattern.specs.Words.{real, amount, truth, device_type, reason, explanation}
use Rattle.script_pattern.specs.declared.table.Shown.{Shown}

-- a mark, and what it shows of the next value and of the text that lies beside the values
pub record Mark : Type 0 where
  pub byte : ℕ
  pub shows : (value : ℕ) (text : List ℕ) → List ℕ

abbrev mark : ℕ → ((value : ℕ) (text : List ℕ) → List ℕ) → Mark
mark b f = record { byte = b; shows = f }

-- # an id, $ a number, ~ a real, + an amount, ? a truth, & an interface, ^ a device type, ! a reason, % the text in hexadecimal, * in letters,
-- ; the explanation of a disconnect; . nothing
unfoldable pub marks : List Mark
marks =
    mark 0x23 (λ v t. ident v)
    ∷ mark 0x24 (λ v t. decimal v)
    ∷ mark 0x7e (λ v t. real v)
    ∷ mark 0x2b (λ v t. amount v)
    ∷ mark 0x3f (λ v t. truth v)
    ∷ mark 0x26 (λ v t. interface_name v)
    ∷ mark 0x5e (λ v t. device_type v)
    ∷ mark 0x21 (λ v t. reason v)
    ∷ mark 0x25 (λ v t. hexadecimal t)
    ∷ mark 0x2a (λ v t. escaped t)
    ∷ mark 0x3b (λ v t. explanation v t)
    ∷ mark 0x2e (λ v t. [])
    ∷ []

-- what a byte of a pattern shows, and how many values it takes: a mark one, any other byte shows itself
unfoldable pub shows_in : List Mark → (byte value : ℕ) (text : List ℕ) → List ℕ
shows_in [] c v t = c ∷ []
shows_in (m ∷ ms) c v t = cond (eqb c m.byte) (m.shows v t) (shows_in ms c v t)

unfoldable pub takes_in : List Mark → (byte : ℕ) → ℕ
takes_in [] c = 0
takes_in (m ∷ ms) c = cond (eqb c m.byte) 1 (takes_in ms c)

unfoldable pub shows : (byte value : ℕ) (text : List ℕ) → List ℕ
unfolding shows_in marks
shows c v t = shows_in marks c v t

unfoldable pub takes : (byte : ℕ) → ℕ
unfolding takes_in marks
takes c = takes_in marks c

-- a pattern with its values in the order of its marks
unfoldable pub patterned : (pattern values text : List ℕ) → List ℕ
unfolding shows takes
patterned [] vs t = []
patterned (c ∷ p) vs t = shows c (get_or vs 0 0) t ++ patterned p (drop (takes c) vs) t

-- ---- the patterns of a trail

-- delivered requests, in the order of the crate's enum, with the fields in the order of its structs; then a text that is shown in letters too
abbrev request_patterns : List String
request_patterns =
    "Disconnect"
    ∷ "Bind seat=# capabilities=$"
    ∷ "DeviceClosed device=#"
    ∷ "RequestDevice seat=# capabilities=$"
    ∷ "Frame device=# last_serial=$ time=$"
    ∷ "Ready device=#"
    ∷ "DeviceStartEmulating device=# last_serial=$ sequence=$"
    ∷ "DeviceStopEmulating device=# last_serial=$"
    ∷ "PointerMotion device=# time=$ dx=~ dy=~"
    ∷ "PointerMotionAbsolute device=# time=$ dx_absolute=~ dy_absolute=~"
    ∷ "Button device=# time=$ button=$ state=$"
    ∷ "ScrollDelta device=# time=$ dx=~ dy=~"
    ∷ "ScrollStop device=# time=$ x=? y=?"
    ∷ "ScrollCancel device=# time=$ x=? y=?"
    ∷ "ScrollDiscrete device=# time=$ discrete_dx=+ discrete_dy=+"
    ∷ "KeyboardKey device=# time=$ key=$ state=$"
    ∷ "TouchDown device=# time=$ touch_id=$ x=~ y=~"
    ∷ "TouchUp device=# time=$ touch_id=$"
    ∷ "TouchMotion device=# time=$ touch_id=$ x=~ y=~"
    ∷ "TouchCancel device=# time=$ touch_id=$"
    ∷ "TextKeysym device=# time=$ keysym=$ state=$"
    ∷ "TextUtf8 device=# time=$ text=t:%"
    ∷ "TextUtf8 device=# time=$ text=t:% \"*\""
    ∷ []

-- outcomes
abbrev outcome_patterns : List String
outcome_patterns =
    "accepted"
    ∷ "seat #"
    ∷ "device #"
    ∷ "$"
    ∷ "?"
    ∷ "none"
    ∷ "refused $ interface=$ version=$"
    ∷ []

-- a refusal by its number, then with its name behind it, from number 1 on
abbrev refusal_patterns : List String
refusal_patterns =
    "refused $"
    ∷ "refused $ (unexpected handshake event)"
    ∷ "refused $ interface=$ version=$ (invalid interface version)"
    ∷ "refused $ (invalid capabilities)"
    ∷ "refused $ (too many touches)"
    ∷ "refused $ (duplicated touch down)"
    ∷ "refused $ (invalid text length)"
    ∷ "refused $ (non-handshake event)"
    ∷ "refused $ (duplicate event)"
    ∷ "refused $ (missing interface)"
    ∷ "refused $ (bad UTF-8)"
    ∷ "refused $ (name long)"
    ∷ "refused $ (unknown handle)"
    ∷ "refused $ (bad capabilities)"
    ∷ "refused $ (full seats)"
    ∷ "refused $ (full devices)"
    ∷ "refused $ (full pending)"
    ∷ "refused $ (full queue)"
    ∷ "refused $ (full texts)"
    ∷ "refused $ (short out)"
    ∷ "refused $ (ids spent)"
    ∷ "refused $ (bad state)"
    ∷ "refused $ (bad part)"
    ∷ "refused $ (malformed)"
    ∷ "refused $ (no object)"
    ∷ "refused $ (invalid id)"
    ∷ "refused $ (unsendable)"
    ∷ []

-- an event record in words, from kind 1 on; 0 is no kind
abbrev record_patterns : List String
record_patterns =
    "unknown record"
    ∷ "seat # version $"
    ∷ "name \"*\""
    ∷ "capability $ &"
    ∷ "done"
    ∷ "destroyed, serial $"
    ∷ "device # version $"
    ∷ "device type ^"
    ∷ "interface # & version $"
    ∷ "resumed, serial $"
    ∷ "paused, serial $"
    ∷ "start emulating, serial $ sequence $"
    ∷ "stop emulating, serial $"
    ∷ "frame, serial $ time $"
    ∷ "disconnected, serial $ reason !;"
    ∷ "callback done $"
    ∷ "handshake version $"
    ∷ "interface version & $"
    ∷ "connection # serial $ version $"
    ∷ []

-- a line that is no call, a line of the script, and the object that a record is sent on
abbrev line_patterns : List String
line_patterns =
    "error line $"
    ∷ "> *"
    ∷ "    #: "
    ∷ []

-- how many records of a read were accepted
abbrev read_patterns : List String
read_patterns = "accepted $" ∷ []

-- a message that was taken, and one that is not yet whole
abbrev message_patterns : List String
message_patterns =
    "accepted taken $"
    ∷ "wait"
    ∷ []

-- 23, by the cases of ParseError; then each with its name behind it
abbrev malformed_patterns : List String
malformed_patterns =
    "refused $ EndOfMessage"
    ∷ "refused $ Utf8"
    ∷ "refused $ InvalidOpcode $ $"
    ∷ "refused $ InvalidVariant $"
    ∷ "refused $ HeaderLength $"
    ∷ "refused $ MessageLength $ $"
    ∷ "refused $ InvalidNull"
    ∷ "refused $ EndOfMessage (malformed)"
    ∷ "refused $ Utf8 (malformed)"
    ∷ "refused $ InvalidOpcode $ $ (malformed)"
    ∷ "refused $ InvalidVariant $ (malformed)"
    ∷ "refused $ HeaderLength $ (malformed)"
    ∷ "refused $ MessageLength $ $ (malformed)"
    ∷ "refused $ InvalidNull (malformed)"
    ∷ []

-- an event's message, and its record
abbrev event_patterns : List String
event_patterns =
    "message t:%"
    ∷ "record t:%"
    ∷ []

unfoldable pub patterns : List String
patterns = request_patterns ++ (outcome_patterns ++ (refusal_patterns ++ (record_patterns ++ (line_patterns ++ (read_patterns ++ (message_patterns ++ (malformed_patterns ++ event_patterns)))))))

-- where each group begins
abbrev pub first_outcome : ℕ
first_outcome = 23

abbrev pub first_refusal : ℕ
first_refusal = 30

abbrev pub first_record : ℕ
first_record = 57

abbrev pub first_line : ℕ
first_line = 76

abbrev pub first_read : ℕ
first_read = 79

abbrev pub first_message : ℕ
first_message = 80

abbrev pub first_malformed : ℕ
first_malformed = 82

abbrev pub first_event : ℕ
first_event = 96

abbrev pub pattern_count : ℕ
pattern_count = 98

-- the pattern of a number; past the table, none
unfoldable pub pattern_at : ℕ → List ℕ
unfolding ascii patterns
pattern_at n = ascii (get_or patterns n "")

-- a pattern's number and up to five values
abbrev pub shown : (pattern a b c d e : ℕ) → Shown
shown p a b c d e = record { pattern = p; a = a; b = b; c = c; d = d; e = e }

abbrev pub values : Shown → List ℕ
values s = s.a ∷ s.b ∷ s.c ∷ s.d ∷ s.e ∷ []

-- what is shown, with the text that lies beside it
unfoldable pub bytes_of : Shown → (text : List ℕ) → List ℕ
unfolding pattern_at patterned
bytes_of s text = patterned (pattern_at s.pattern) (values s) text
