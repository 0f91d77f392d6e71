-- The numbers by which C names things. Assumes nothing.
use Rattle.std.specs.Prelude.{ℕ, ◌≡◌, cond, List, [], ◌∷◌, ◌++◌, map, eqb, Some, None, Ok, Err}
use Rattle.eiproto.specs.Interface.{ei_connection, ei_callback, ei_pingpong, ei_seat, ei_device, ei_pointer, ei_pointer_absolute, ei_scroll, ei_button, ei_keyboard, ei_touchscreen, ei_text}
use Rattle.eiproto.specs.Capability.{capabilities, capability_mask, capability_by}
use Rattle.eiproto.specs.Enum.{invalid_variant, context_types, context_type_number, context_type_of, device_types, device_type_number, device_type_of, disconnect_reasons, disconnect_reason_number, disconnect_reason_of}
use Rattle.eiproto.specs.declared.event.DeviceCapability.{DeviceCapability}
use Rattle.eiproto.specs.declared.eiproto_enum.ContextType.{ContextType}
use Rattle.eiproto.specs.declared.eiproto_enum.DeviceType.{DeviceType}
use Rattle.eiproto.specs.declared.eiproto_enum.DisconnectReason.{DisconnectReason}
use Rattle.wire.specs.declared.ParseError.{ParseError}
use Rattle.requests.specs.declared.eis.HandshakeRequest.{HandshakeRequest}
use Rattle.handshake.specs.View.{number}
use Rattle.handshake.specs.declared.handshake.HandshakeError.{HandshakeError}
use Rattle.lent_read.specs.Numbers.{record_words, record_reals}
use Rattle.answers.specs.Answer.{number_of}
use Rattle.answers.specs.declared.Error.{Error}
use Rattle.answer_numbers.specs.Numbers.{none_number, bad_argument, wait_number, malformed_number, no_object_number, unsendable_number}
use Rattle.bozterrun.specs.Message.{told_error}

-- a handshake's request by its opcode (src/eiproto_eis.rs), with the number that it carries
abbrev pub handshake_request : (opcode value : ℕ) → HandshakeRequest
handshake_request opcode value =
    cond (eqb opcode 0) (HandshakeRequest.HandshakeVersion value)
    (cond (eqb opcode 1) HandshakeRequest.Finish
    (cond (eqb opcode 2) (HandshakeRequest.ContextType value)
    (cond (eqb opcode 3) HandshakeRequest.Name (HandshakeRequest.InterfaceVersion value))))

-- a number stands for a case of its enum, or for none
abbrev pub IsCapability : (mask : ℕ) → DeviceCapability → Type 0
IsCapability n c = capability_by capability_mask n ≡ Some c

abbrev pub NoCapability : (mask : ℕ) → Type 0
NoCapability n = capability_by capability_mask n ≡ None

abbrev pub IsContext : ℕ → ContextType → Type 0
IsContext n c = context_type_of n ≡ Ok c

abbrev pub NoContext : (number variant : ℕ) → Type 0
NoContext n v = context_type_of n ≡ Err (invalid_variant v)

abbrev pub IsType : ℕ → DeviceType → Type 0
IsType n t = device_type_of n ≡ Ok t

abbrev pub NoType : (number variant : ℕ) → Type 0
NoType n v = device_type_of n ≡ Err (invalid_variant v)

abbrev pub IsReason : ℕ → DisconnectReason → Type 0
IsReason n r = disconnect_reason_of n ≡ Ok r

abbrev pub NoReason : (number variant : ℕ) → Type 0
NoReason n v = disconnect_reason_of n ≡ Err (invalid_variant v)

-- the refusals, in the order of their numbers; those of a handshake alone stand in their places
abbrev refusals : List ℕ
refusals =
    map number_of (Error.UnexpectedHandshakeEvent ∷ Error.InvalidInterfaceVersion 0 0 ∷ Error.InvalidCapabilities ∷ Error.TooManyTouches ∷ Error.DuplicatedTouchDown
    ∷ Error.InvalidTextLength ∷ [])
    ++ map number (HandshakeError.NonHandshakeEvent ∷ HandshakeError.DuplicateEvent ∷ HandshakeError.MissingInterface ∷ [])
    ++ map number_of (Error.BadUtf8 ∷ Error.NameLong ∷ Error.UnknownHandle ∷ Error.BadCapabilities ∷ Error.FullSeats ∷ Error.FullDevices ∷ Error.FullPending
    ∷ Error.FullQueue ∷ Error.FullTexts ∷ Error.ShortOut ∷ Error.IdsSpent ∷ Error.BadState ∷ Error.BadPart ∷ [])
    ++ (malformed_number ∷ no_object_number ∷ number_of Error.InvalidId ∷ unsendable_number ∷ [])

-- the kinds of delivered requests are the places of `meanings` in requests/specs/Row
abbrev kinds : List ℕ
kinds = 0 ∷ 1 ∷ 2 ∷ 3 ∷ 4 ∷ 5 ∷ 6 ∷ 7 ∷ 8 ∷ 9 ∷ 10 ∷ 11 ∷ 12 ∷ 13 ∷ 14 ∷ 15 ∷ 16 ∷ 17 ∷ 18 ∷ 19 ∷ 20 ∷ 21 ∷ []

-- the numbers of a read's requests are the places of `meanings` in lent_read/specs/Numbers
abbrev requests : List ℕ
requests =
    0 ∷ 1 ∷ 2 ∷ 3 ∷ 4 ∷ 5 ∷ 6 ∷ 7 ∷ 8 ∷ 9 ∷ 10 ∷ 11 ∷ 12 ∷ 13 ∷ 14 ∷ 15 ∷ 16 ∷ 17 ∷ 18 ∷ 19 ∷ 20 ∷ 21 ∷ 22 ∷ 23 ∷ 24 ∷ 25 ∷ 26 ∷ 27 ∷ 28 ∷ 29 ∷ 30 ∷ 31 ∷ 32
    ∷ 33 ∷ 34 ∷ 35 ∷ []

abbrev interfaces : List ℕ
interfaces =
    ei_connection ∷ ei_callback ∷ ei_pingpong ∷ ei_seat ∷ ei_device ∷ ei_pointer ∷ ei_pointer_absolute ∷ ei_scroll ∷ ei_button ∷ ei_keyboard ∷ ei_touchscreen ∷ ei_text ∷ []

-- the cases of a malformed message
abbrev parse_errors : List ℕ
parse_errors =
    map (λ e. (told_error e).error) (ParseError.EndOfMessage ∷ ParseError.Utf8 ∷ ParseError.InvalidOpcode 0 0 ∷ ParseError.InvalidVariant 0 ∷ ParseError.HeaderLength 0
    ∷ ParseError.MessageLength 0 0 ∷ ParseError.InvalidNull ∷ [])

-- the bytes of a message's header, and the most that a message has
abbrev message_lengths : List ℕ
message_lengths = 16 ∷ 1024 ∷ []

-- the most that an event's message has, and its record
abbrev event_lengths : List ℕ
event_lengths = 284 ∷ 273 ∷ []

-- THE TABLE that a header is tested by
unfoldable pub numbers : List ℕ
unfolding number_of
numbers =
    refusals ++ (none_number ∷ bad_argument ∷ wait_number ∷ []) ++ kinds ++ interfaces ++ map capability_mask capabilities ++ map context_type_number context_types
    ++ map device_type_number device_types ++ map disconnect_reason_number disconnect_reasons ++ requests ++ (record_words ∷ record_reals ∷ [])
    ++ parse_errors ++ message_lengths ++ event_lengths
