-- The scope's worked example of a record. Assumes nothing.
use mathlib.Core.List.{[], ◌∷◌}
use mathlib.Core.Path.{◌≡◌, refl}
use Rattle.wire.specs.Record.{event_record}
use Rattle.wire.specs.declared.event.Event.TheVariants.{Destroyed}

-- the starred line: "Destroyed, object ff00000000000001 hex, serial 8"
pub star_destroyed : event_record 0xff00_0000_0000_0001 (Destroyed 8) [] ≡ 0x28 ∷ 0x0e ∷ 0xff ∷ 0x00 ∷ 0x00 ∷ 0x00 ∷ 0x00 ∷ 0x00 ∷ 0x00 ∷ 0x01 ∷ 0x00 ∷ 0x00 ∷ 0x00 ∷ 0x08 ∷ []
unfolding event_record
star_destroyed = refl
