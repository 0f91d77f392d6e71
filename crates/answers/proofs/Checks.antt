-- What a text that may be given is tested for. Assumes nothing.
use Prim.Native.Nat.{ℕ, ◌≤◌, ◌<◌}
use mathlib.Core.Path.{◌≡◌, ap, ◌∙◌}
use mathlib.Core.Bool.{true, false}
use mathlib.Core.List.{List}
use mathlib.Core.Option.{Option, none, some}
use borrow.Author.Tests.{lt-ltb, le-ltb}
use lib.ListN.{length}
use Rattle.std.specs.Prelude.{Result, Ok, Err}
use Rattle.utf8.specs.Rfc3629.{is_utf8}
use Rattle.model.specs.Plan.{refuse}
use Rattle.model.specs.Decide.{check_utf8, check_name, check_optional}
use Rattle.answers.specs.Check.{on_checked, Checks}
use Rattle.answers.specs.declared.Error.{Error}

-- an answer in another form
pub checks_as : (text : Option (List ℕ)) {r k : Result (Unit {0}) Error} → r ≡ k → Checks text r → Checks text k
checks_as text e h plan = h plan ∙ ap (λ (c : Result (Unit {0}) Error). on_checked c plan) e

pub checks_none : {text : Option (List ℕ)} → text ≡ none → Checks text (Ok tt)
unfolding check_optional
checks_none n plan = rw n

module _ {optional : Option (List ℕ)} (text : List ℕ) (g : optional ≡ some text) where
  pub checks_utf8 : is_utf8 text ≡ false → Checks optional (Err Error.BadUtf8)
  unfolding check_optional check_name check_utf8 refuse
  checks_utf8 u plan = rw (g, u)

  pub checks_long : is_utf8 text ≡ true → 254 < length text → Checks optional (Err Error.NameLong)
  unfolding check_optional check_name check_utf8 refuse
  checks_long u l plan = rw (g, u, lt-ltb 254 (length text) l)

  pub checks_fine : is_utf8 text ≡ true → length text ≤ 254 → Checks optional (Ok tt)
  unfolding check_optional check_name check_utf8
  checks_fine u l plan = rw (g, u, le-ltb 254 (length text) l)
