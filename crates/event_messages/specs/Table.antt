-- The events of each interface, by opcode (the `Event` enums of src/eiproto_eis.rs). Assumes nothing.
use Rattle.std.specs.Prelude.{ℕ, List, [], ◌∷◌, get_or}

-- interfaces by their numbers, 0 for the handshake's, each with its events by opcode: the kind of the record that stands for the event,
-- 0 where there is none
abbrev pub table : List (List ℕ)
table =
    -- handshake: handshake_version, interface_version, connection
    (16 ∷ 17 ∷ 18 ∷ [])
    -- connection: disconnected, seat; invalid_object and ping have no record
    ∷ (14 ∷ 1 ∷ [])
    -- callback: done
    ∷ (15 ∷ [])
    -- pingpong
    ∷ []
    -- seat: destroyed, name, capability, done, device
    ∷ (5 ∷ 2 ∷ 3 ∷ 4 ∷ 6 ∷ [])
    -- device: destroyed, name, device_type, dimensions (no record), region (none), interface, done, resumed, paused, start_emulating,
    -- stop_emulating, frame; region_mapping_id has none
    ∷ (5 ∷ 2 ∷ 7 ∷ 0 ∷ 0 ∷ 8 ∷ 4 ∷ 9 ∷ 10 ∷ 11 ∷ 12 ∷ 13 ∷ [])
    -- pointer, pointer_absolute, scroll, button, keyboard, touchscreen, text: destroyed
    ∷ (5 ∷ []) ∷ (5 ∷ []) ∷ (5 ∷ []) ∷ (5 ∷ []) ∷ (5 ∷ []) ∷ (5 ∷ []) ∷ (5 ∷ [])
    ∷ []

-- the kind that an opcode stands for on an object of the interface, 0 for none
unfoldable pub kind_of : (interface opcode : ℕ) → ℕ
kind_of interface opcode = get_or (get_or table interface []) opcode 0
