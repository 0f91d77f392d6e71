-- The requests of each interface with their arguments (the `Request` enums of src/eiproto_eis.rs). Assumes nothing.
use Rattle.std.specs.Prelude.{ℕ, List, [], ◌∷◌, get_or, Some}
use Rattle.std.specs.Prelude as rust
use Rattle.parse.specs.declared.Argument.{Argument}
use Rattle.parse.specs.declared.Argument.TheVariants.{None, Uint32, Uint64, Float, String, PressState, ContextType}
use Rattle.parse.specs.declared.Signature.{Signature}

-- a request with its arguments, or none
abbrev pub Found : Type 0
Found = rust.Option Signature

-- a request's number with its arguments
abbrev pub row : (request : ℕ) → (first second third : Argument) → Found
row n a b c = Some (record { request = n; first = a; second = b; third = c })

-- interfaces by their numbers, each with its requests by opcode. Requests are numbered through, and an int32 is read as its 32 bits
abbrev pub table : List (List Found)
table =
    -- handshake: handshake_version, finish, context_type, name, interface_version
    (row 0 Uint32 None None ∷ row 1 None None None ∷ row 2 ContextType None None ∷ row 3 String None None ∷ row 4 String Uint32 None ∷ [])
    -- connection: sync, disconnect
    ∷ (row 5 Uint64 Uint32 None ∷ row 6 None None None ∷ [])
    -- callback
    ∷ []
    -- pingpong: done
    ∷ (row 7 Uint64 None None ∷ [])
    -- seat: release, bind, request_device
    ∷ (row 8 None None None ∷ row 9 Uint64 None None ∷ row 10 Uint64 None None ∷ [])
    -- device: release, start_emulating, stop_emulating, frame, ready
    ∷ (row 11 None None None ∷ row 12 Uint32 Uint32 None ∷ row 13 Uint32 None None ∷ row 14 Uint32 Uint64 None ∷ row 15 None None None ∷ [])
    -- pointer: release, motion_relative
    ∷ (row 16 None None None ∷ row 17 Float Float None ∷ [])
    -- pointer_absolute: release, motion_absolute
    ∷ (row 18 None None None ∷ row 19 Float Float None ∷ [])
    -- scroll: release, scroll, scroll_discrete, scroll_stop
    ∷ (row 20 None None None ∷ row 21 Float Float None ∷ row 22 Uint32 Uint32 None ∷ row 23 Uint32 Uint32 Uint32 ∷ [])
    -- button: release, button
    ∷ (row 24 None None None ∷ row 25 Uint32 PressState None ∷ [])
    -- keyboard: release, key
    ∷ (row 26 None None None ∷ row 27 Uint32 PressState None ∷ [])
    -- touchscreen: release, down, motion, up, cancel
    ∷ (row 28 None None None ∷ row 29 Uint32 Float Float ∷ row 30 Uint32 Float Float ∷ row 31 Uint32 None None ∷ row 32 Uint32 None None ∷ [])
    -- text: release, keysym, utf8
    ∷ (row 33 None None None ∷ row 34 Uint32 PressState None ∷ row 35 String None None ∷ [])
    ∷ []

-- the request that an opcode stands for; "opcode not in the table": InvalidOpcode
unfoldable pub signature_of : (interface opcode : ℕ) → Found
signature_of interface opcode = get_or (get_or table interface []) opcode rust.None
