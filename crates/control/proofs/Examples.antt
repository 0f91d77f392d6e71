-- Words worked out by hand from the layout, and what they say. Assumes nothing.
use Rattle.std.proofs.Common.{◌≡◌, ℕ, ◌+◌, ◌-◌, true, false, List, [], ◌∷◌, ◌++◌, map, set, replicate, refl}
use mathlib.Core.Option.{none, some}
use Rattle.eiproto.specs.Bits.{bits_of, bits_below, common}
use Rattle.model.specs.Decide.{version, lists_as}
use Rattle.control.specs.Table.{tab, first, map_option}
use Rattle.control.specs.Control.{control_length, device_place, version_in, seat_at, versions_of, connection_of, interface_id, interface_on, interfaces_on, core_at, cores_of}
use Rattle.control.specs.Sound.{row_sound, rows_sound, is_sound}

-- Connection 5, last serial 7, next id 100, one seat, one device, nothing queued; version 2 of the first interface, version 0 of the third, no other;
-- seat 8 has all capabilities. Device 20 on it has pointer, keyboard and text (bits 0, 2 and 6), keyboard is no longer listed, three requests are pending,
-- and the touches 9 and 0 are held.
words : List ℕ
words =
    (5 ∷ 7 ∷ 100 ∷ 1 ∷ 1 ∷ 0 ∷ 0 ∷ 0 ∷ [])
    ++ ((3 ∷ 0 ∷ 1 ∷ 0 ∷ 0 ∷ 0 ∷ 0 ∷ 0 ∷ 0 ∷ 0 ∷ 0 ∷ 0 ∷ [])
    ++ ((8 ∷ 127 ∷ 0 ∷ 0 ∷ 0 ∷ 0 ∷ 0 ∷ 0 ∷ 0 ∷ 0 ∷ 0 ∷ 0 ∷ []) ++ ((20 ∷ 8 ∷ 69 ∷ 65 ∷ 3 ∷ 2 ∷ 9 ∷ 0 ∷ 4 ∷ []) ++ replicate (control_length - 41) 0)))

sound-words : is_sound words ≡ true
unfolding is_sound rows_sound row_sound words
sound-words = refl

-- a word more is no session's
long-words : is_sound (words ++ (0 ∷ [])) ≡ false
unfolding is_sound words
long-words = refl

-- 65 pending on the device is above the limit; behind the last device it is no count
full_words : is_sound (set words (device_place 0 + 4) 65) ≡ false
unfolding is_sound rows_sound row_sound words
full_words = refl

spare_words : is_sound (set words (device_place 1 + 4) 65) ≡ true
unfolding is_sound rows_sound row_sound words
spare_words = refl

seats : (connection_of words).seats ≡ record { id = 8; capabilities = 127 } ∷ []
unfolding connection_of tab seat_at words
seats = refl

-- not negotiated is no version 0
versions : map (version (connection_of words)) (1 ∷ 2 ∷ 3 ∷ 12 ∷ 13 ∷ []) ≡ some 2 ∷ none ∷ some 0 ∷ none ∷ none ∷ []
unfolding version connection_of versions_of tab version_in words
versions = refl

-- the ids follow the device's in order of the bits that it was made with
interfaces : (core_at words 0).interfaces
    ≡ record { capability = 0; id = 21 } ∷ record { capability = 6; id = 23 } ∷ []
unfolding core_at interfaces_on interface_on interface_id bits_of bits_below common words
interfaces = refl

touches : (core_at words 0).down_touch_ids ≡ 9 ∷ 0 ∷ []
unfolding core_at tab words
touches = refl

-- text is known by its id; keyboard is not any more; pointer's id is no text's
found : map (λ id. first (λ d. lists_as 6 id d.interfaces) (cores_of words)) (23 ∷ 22 ∷ 21 ∷ []) ≡ some 0 ∷ none ∷ none ∷ []
unfolding first map_option lists_as cores_of core_at tab interfaces_on interface_on interface_id bits_of bits_below common words
found = refl
