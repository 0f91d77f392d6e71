-- The same call, told otherwise. Assumes nothing.
use Prim.Native.Nat.{ℕ}
use mathlib.Core.Path.{◌≡◌, refl}
use Rattle.std.specs.Borrow.{Bor}
use Rattle.session.specs.Slices.{optional, given}
use mathlib.Core.Bool.{Bool}
use mathlib.Core.List.{List}
use Rattle.model.specs.Call.{Plain, Call}
use Rattle.session.specs.View.{Store, Lending}
use Rattle.answers.specs.Meets.{Answered}
use Rattle.std.specs.Prelude.{Option, Some, None, Result}
use Rattle.answers.specs.declared.Answer.{Answer}
use Rattle.answers.specs.declared.Error.{Error}
use Rattle.script_asked.specs.declared.Station.{Station}
use Rattle.script_calls.specs.Station.{is_lent, lent_bytes, station_call, lending}

-- a text that may be missing, told by a flag and its bytes
pub given-lent : (t : Option (Bor (List ℕ))) → optional (is_lent t) (lent_bytes t) ≡ given t
given-lent None = refl
given-lent (Some t) = refl

pub for_plain : {l : Lending} {s e : Store} {out later : List ℕ} {x y : Plain} {r : Result Answer Error} (clock : ℕ) → x ≡ y → Answered l s e out later (Call.plain y) clock r
    → Answered l s e out later (Call.plain x) clock r
for_plain clock p h = rw p h

pub for_station : {s e : Store} {out later : List ℕ} {x y : Station} {r : Result Answer Error} (given : Bool) (text : List ℕ) (clock : ℕ) → x ≡ y
    → Answered (lending y) s e out later (Call.plain (station_call y given text)) clock r → Answered (lending x) s e out later (Call.plain (station_call x given text)) clock r
for_station given text clock p h = rw p h
