-- A record's fields by the shape of its kind. Assumes nothing.
use Rattle.std.specs.Prelude.{ℕ, Bool}
use Rattle.wire.specs.Fields.{numbers}
use Rattle.wire.specs.declared.event.Fields.{Fields}
use Rattle.event_messages.specs.Shape.{width}
use Rattle.event_messages.specs.declared.Shape.{Shape}
use Rattle.event_messages.specs.declared.Values.{Values}

abbrev pub fields_of : (kind : ℕ) → Shape → Values → (text : Bool) → Fields
fields_of kind s v text = numbers kind (width s.first) v.first (width s.second) v.second (width s.third) v.third text
