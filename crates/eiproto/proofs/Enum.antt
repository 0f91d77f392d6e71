-- For each enum: the number of a value is read as that value, and a number that is read as a value is that value's number. Assumes nothing.
use Prim.Native.Nat.{ℕ}
use mathlib.Core.Path.{◌≡◌, refl, sym, ap, ◌∙◌}
use mathlib.Core.List.{List}
use Rattle.std.specs.Prelude.{Result, Ok, Err}
use Rattle.eiproto.proofs.Variant.{parsed}
use Rattle.eiproto.specs.declared.eiproto_enum.InvalidVariant.{InvalidVariant}
use Rattle.eiproto.specs.declared.eiproto_enum.ContextType.{ContextType}
use Rattle.eiproto.specs.declared.eiproto_enum.DisconnectReason.{DisconnectReason}
use Rattle.eiproto.specs.declared.eiproto_enum.DeviceType.{DeviceType}
use Rattle.eiproto.specs.declared.eiproto_enum.ButtonState.{ButtonState}
use Rattle.eiproto.specs.declared.eiproto_enum.KeyState.{KeyState}
use Rattle.eiproto.specs.Enum.{invalid_variant, variant_of}
use Rattle.eiproto.specs.Enum.{context_type_number, context_types, context_type_of, disconnect_reason_number, disconnect_reasons, disconnect_reason_of}
use Rattle.eiproto.specs.Enum.{device_type_number, device_types, device_type_of, button_state_number, button_states, button_state_of, key_state_number, key_states, key_state_of}

-- of any enum: a number that is read as a value is that value's number
number_read : {A : Type 0} (number : A → ℕ) (cases : List A) (n : ℕ) (x : A) → variant_of number cases n ≡ Ok x → n ≡ number x
number_read {A = A} number cases n x e =
    sym (parsed number Ok (Err (invalid_variant n)) n told (λ y. refl) refl cases) ∙ ap told e
  where
    told : Result A InvalidVariant → ℕ
    told (Ok y) = number y
    told (Err i) = i.0

pub context_type_of-number : (x : ContextType) → context_type_of (context_type_number x) ≡ Ok x
context_type_of-number ContextType.Receiver = refl
context_type_of-number ContextType.Sender = refl

pub context_type_number_of : (n : ℕ) (x : ContextType) → context_type_of n ≡ Ok x → n ≡ context_type_number x
context_type_number_of n x e = number_read context_type_number context_types n x e

pub disconnect_reason_of-number : (x : DisconnectReason) → disconnect_reason_of (disconnect_reason_number x) ≡ Ok x
disconnect_reason_of-number DisconnectReason.Disconnected = refl
disconnect_reason_of-number DisconnectReason.Error = refl
disconnect_reason_of-number DisconnectReason.Mode = refl
disconnect_reason_of-number DisconnectReason.Protocol = refl
disconnect_reason_of-number DisconnectReason.Value = refl
disconnect_reason_of-number DisconnectReason.Transport = refl

pub disconnect_reason_number_of : (n : ℕ) (x : DisconnectReason) → disconnect_reason_of n ≡ Ok x → n ≡ disconnect_reason_number x
disconnect_reason_number_of n x e = number_read disconnect_reason_number disconnect_reasons n x e

pub device_type_of-number : (x : DeviceType) → device_type_of (device_type_number x) ≡ Ok x
device_type_of-number DeviceType.Virtual = refl
device_type_of-number DeviceType.Physical = refl

pub device_type_number_of : (n : ℕ) (x : DeviceType) → device_type_of n ≡ Ok x → n ≡ device_type_number x
device_type_number_of n x e = number_read device_type_number device_types n x e

pub button_state_of-number : (x : ButtonState) → button_state_of (button_state_number x) ≡ Ok x
button_state_of-number ButtonState.Released = refl
button_state_of-number ButtonState.Press = refl

pub button_state_number_of : (n : ℕ) (x : ButtonState) → button_state_of n ≡ Ok x → n ≡ button_state_number x
button_state_number_of n x e = number_read button_state_number button_states n x e

pub key_state_of-number : (x : KeyState) → key_state_of (key_state_number x) ≡ Ok x
key_state_of-number KeyState.Released = refl
key_state_of-number KeyState.Press = refl

pub key_state_number_of : (n : ℕ) (x : KeyState) → key_state_of n ≡ Ok x → n ≡ key_state_number x
key_state_number_of n x e = number_read key_state_number key_states n x e
