-- What a new seat and a new device both send: a name, where it is given, and done. Assumes nothing.
use Rattle.std.proofs.Common.{◌≡◌, ℕ, ◌+◌, List, [], ◌∷◌, length, refl, ap, ◌∙◌, arith}
use Rattle.wire.specs.declared.event.Event.{Event}
use Rattle.wire.specs.Bits.{widths}
use Rattle.wire.specs.Record.{layout, text_of, fixed_length, record_length}
use Rattle.model.specs.Plan.{Sent, records}
use Rattle.model.specs.Decide.{name_events}
use Rattle.std.proofs.Math.Option.{Option, none, some}
use Rattle.events.proofs.Writes.{one_length}

module _ {name : Option (List ℕ)} (object : ℕ) where
  module _ (n : name ≡ none) where
    pub name-none : name_events object name ≡ []
    unfolding name_events
    name-none = rw n

    pub none-length : length (records (name_events object name)) ≡ 0
    unfolding records
    none-length = ap (λ (l : List Sent). length (records l)) name-none

  module _ (text : List ℕ) (g : name ≡ some text) where
    pub name-given : name_events object name ≡ record { object = object; event = Event.Name; text = text } ∷ []
    unfolding name_events
    name-given = rw g

    pub given-length : length (records (name_events object name)) ≡ record_length Event.Name text
    given-length = ap (λ (l : List Sent). length (records l)) name-given ∙ one_length object Event.Name text

pub name_length_lem : (text : List ℕ) → record_length Event.Name text ≡ 10 + length text
unfolding record_length fixed_length text_of layout widths
name_length_lem text = refl

pub done-text : (text : List ℕ) → record_length Event.Done text ≡ fixed_length Event.Done
unfolding record_length text_of layout
done-text text = omega arith

pub done-fixed : fixed_length Event.Done ≡ 10
unfolding fixed_length layout widths
done-fixed = refl
