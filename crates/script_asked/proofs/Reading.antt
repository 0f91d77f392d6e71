-- Words that are equal each are equal. Assumes nothing.
use Prim.Native.Nat.{ℕ}
use mathlib.Core.Path.{◌≡◌}
use lib.Ieee.{Float}
use lib.IntN.{ℤ}
use Rattle.eiproto.specs.declared.eiproto_enum.ButtonState.{ButtonState}
use Rattle.eiproto.specs.declared.eiproto_enum.DeviceType.{DeviceType}
use Rattle.eiproto.specs.declared.eiproto_enum.DisconnectReason.{DisconnectReason}
use Rattle.eiproto.specs.declared.eiproto_enum.KeyState.{KeyState}
use Rattle.eiproto.specs.declared.event.DeviceCapability.{DeviceCapability}
use Rattle.script.specs.declared.line.Args.{Args}
use Rattle.script.specs.Told.{u64_of, u32_of, i32_of, f32_of}
use Rattle.script_asked.specs.declared.Words.{Words}
use Rattle.script_asked.specs.Asked.{key_state, button_state, device_type, reason, capability, words_of}

pub read_words_lem : (w : Args) {a64 : ℕ} {a32 : ℕ} {b64 : ℕ} {b32 : ℕ} {c64 : ℕ} {c32 : ℕ} {d64 : ℕ} {d32 : ℕ} {bx : Float} {cx : Float} {dx : Float} {bi : ℤ} {ci : ℤ} {key : KeyState} {button : ButtonState} {kind : DeviceType} {why : DisconnectReason} {cap : DeviceCapability}
    → a64 ≡ u64_of w.a → a32 ≡ u32_of w.a → b64 ≡ u64_of w.b → b32 ≡ u32_of w.b → c64 ≡ u64_of w.c → c32 ≡ u32_of w.c → d64 ≡ u64_of w.d → d32 ≡ u32_of w.d → bx ≡ f32_of w.b → cx ≡ f32_of w.c → dx ≡ f32_of w.d → bi ≡ i32_of w.b → ci ≡ i32_of w.c → key ≡ key_state w.c → button ≡ button_state w.c → kind ≡ device_type w.c → why ≡ reason w.a → cap ≡ capability w.b
    → ◌≡◌ {A = Words} (record { a64 = a64; a32 = a32; b64 = b64; b32 = b32; c64 = c64; c32 = c32; d64 = d64; d32 = d32; bx = bx; cx = cx; dx = dx; bi = bi; ci = ci; key = key; button = button; kind = kind; reason = why; capability = cap }) (words_of w)
unfolding words_of
read_words_lem w pa64 pa32 pb64 pb32 pc64 pc32 pd64 pd32 pbx pcx pdx pbi pci pkey pbutton pkind preason pcapability = rw (pa64, pa32, pb64, pb32, pc64, pc32, pd64, pd32, pbx, pcx, pdx, pbi, pci, pkey, pbutton, pkind, preason, pcapability)
