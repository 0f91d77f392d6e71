-- The protocol's enums and the numbers that stand for their cases on the wire (src/eiproto_enum.rs). Assumes nothing.
-- Of each enum T: the number of a case, the cases, and the case that a number stands for; a number that stands for none is an InvalidVariant.
use Rattle.std.specs.Prelude.{ℕ, List, [], ◌∷◌, Result, Ok, Err}
use Rattle.eiproto.specs.Variant.{parse}
use Rattle.eiproto.specs.declared.eiproto_enum.ContextType.{ContextType}
use Rattle.eiproto.specs.declared.eiproto_enum.DisconnectReason.{DisconnectReason}
use Rattle.eiproto.specs.declared.eiproto_enum.DeviceType.{DeviceType}
use Rattle.eiproto.specs.declared.eiproto_enum.ButtonState.{ButtonState}
use Rattle.eiproto.specs.declared.eiproto_enum.KeyState.{KeyState}
use Rattle.eiproto.specs.declared.eiproto_enum.InvalidVariant.{InvalidVariant}

-- the error of a number that stands for no case
abbrev pub invalid_variant : ℕ → InvalidVariant
invalid_variant n = record { 0 = n }

-- the case that a number stands for, by the cases of an enum and their numbers
abbrev pub variant_of : {A : Type 0} → (A → ℕ) → List A → ℕ → Result A InvalidVariant
variant_of number cases n = parse number Ok (Err (invalid_variant n)) cases n

abbrev pub context_type_number : ContextType → ℕ
context_type_number ContextType.Receiver = 1
context_type_number ContextType.Sender = 2

abbrev pub context_types : List ContextType
context_types = ContextType.Receiver ∷ ContextType.Sender ∷ []

abbrev pub context_type_of : ℕ → Result ContextType InvalidVariant
context_type_of n = variant_of context_type_number context_types n

abbrev pub disconnect_reason_number : DisconnectReason → ℕ
disconnect_reason_number DisconnectReason.Disconnected = 0
disconnect_reason_number DisconnectReason.Error = 1
disconnect_reason_number DisconnectReason.Mode = 2
disconnect_reason_number DisconnectReason.Protocol = 3
disconnect_reason_number DisconnectReason.Value = 4
disconnect_reason_number DisconnectReason.Transport = 5

abbrev pub disconnect_reasons : List DisconnectReason
disconnect_reasons =
    DisconnectReason.Disconnected ∷ DisconnectReason.Error ∷ DisconnectReason.Mode ∷ DisconnectReason.Protocol ∷ DisconnectReason.Value
    ∷ DisconnectReason.Transport ∷ []

abbrev pub disconnect_reason_of : ℕ → Result DisconnectReason InvalidVariant
disconnect_reason_of n = variant_of disconnect_reason_number disconnect_reasons n

abbrev pub device_type_number : DeviceType → ℕ
device_type_number DeviceType.Virtual = 1
device_type_number DeviceType.Physical = 2

abbrev pub device_types : List DeviceType
device_types = DeviceType.Virtual ∷ DeviceType.Physical ∷ []

abbrev pub device_type_of : ℕ → Result DeviceType InvalidVariant
device_type_of n = variant_of device_type_number device_types n

abbrev pub button_state_number : ButtonState → ℕ
button_state_number ButtonState.Released = 0
button_state_number ButtonState.Press = 1

abbrev pub button_states : List ButtonState
button_states = ButtonState.Released ∷ ButtonState.Press ∷ []

abbrev pub button_state_of : ℕ → Result ButtonState InvalidVariant
button_state_of n = variant_of button_state_number button_states n

abbrev pub key_state_number : KeyState → ℕ
key_state_number KeyState.Released = 0
key_state_number KeyState.Press = 1

abbrev pub key_states : List KeyState
key_states = KeyState.Released ∷ KeyState.Press ∷ []

abbrev pub key_state_of : ℕ → Result KeyState InvalidVariant
key_state_of n = variant_of key_state_number key_states n
