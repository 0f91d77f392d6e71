-- A number is a case of its enum or none, and only one case. Assumes nothing.
use mathlib.Core.Path.{◌≡◌, sym, ap, ◌∙◌, subst}
use mathlib.Core.Option.{Option, none, some}
use Rattle.std.specs.Prelude as rust
use Rattle.std.specs.Prelude.{Result, Ok, Err}
use Rattle.eiproto.specs.Told.{told}
use Rattle.eiproto.specs.declared.event.DeviceCapability.{DeviceCapability}
use Rattle.eiproto.specs.declared.eiproto_enum.ContextType.{ContextType}
use Rattle.eiproto.specs.declared.eiproto_enum.DeviceType.{DeviceType}
use Rattle.eiproto.specs.declared.eiproto_enum.DisconnectReason.{DisconnectReason}
use Rattle.eiproto.specs.declared.eiproto_enum.InvalidVariant.{InvalidVariant}

-- ---- the case that a number is read as, of each enum

abbrev pub capability : rust.Option DeviceCapability → Option DeviceCapability
capability = told

abbrev case : {A : Type 0} → Result A InvalidVariant → Option A
case (Ok a) = some a
case (Err e) = none

abbrev pub context : Result ContextType InvalidVariant → Option ContextType
context = case

abbrev pub type : Result DeviceType InvalidVariant → Option DeviceType
type = case

abbrev pub reason : Result DisconnectReason InvalidVariant → Option DisconnectReason
reason = case

module _ {A : Type 0} where
  abbrev or_else : A → Option A → A
  or_else other none = other
  or_else other (some a) = a

  abbrev is_some : Option A → Type 0
  is_some none = ⊥
  is_some (some a) = Unit {0}

  -- a parse that tells two cases tells the same; one that tells a case does not tell none
  module _ {D : Type 0} (told : D → Option A) {x y : D} (same : x ≡ y) where
    pub one_case : {a b : A} → told x ≡ some a → told y ≡ some b → a ≡ b
    one_case {a} p q = ap (or_else a) (sym p ∙ ap told same ∙ q)

    pub not_none : {a : A} → told x ≡ some a → told y ≡ none → ⊥
    not_none p q = subst is_some (sym p ∙ ap told same ∙ q) tt
