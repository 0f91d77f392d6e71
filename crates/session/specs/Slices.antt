-- The slices of a session as a function is lent them. In an `ensures` a parameter has its value at entry and at exit, in a `requires` at entry alone.
-- Assumes nothing.
use Rattle.std.specs.Prelude.{ℕ, Bool, true, false, List, Float}
use Rattle.std.specs.Prelude as rust
use Rattle.std.proofs.Math.Option.{Option, none, some}
use Rattle.std.specs.Borrow.{Bor, MutBor}
use denote.Triple.Both.{Both}
use Rattle.session.specs.View.{Store, store}

-- a slice that is lent to be changed, of numbers and of reals
abbrev pub Numbers : Type 0
Numbers = Both (MutBor (List ℕ)) (MutBor (List ℕ))

abbrev pub Reals : Type 0
Reals = Both (MutBor (List Float)) (MutBor (List Float))

-- a slice that is lent to be read
abbrev pub SharedNumbers : Type 0
SharedNumbers = Both (Bor (List ℕ)) (Bor (List ℕ))

abbrev pub SharedReals : Type 0
SharedReals = Both (Bor (List Float)) (Bor (List Float))

-- the session's slices at entry and at exit
abbrev pub before : (control words : Numbers) (reals : Reals) (texts : Numbers) → Store
before c w r t = store c.entry.now w.entry.now r.entry.now t.entry.now

abbrev pub after : (control words : Numbers) (reals : Reals) (texts : Numbers) → Store
after c w r t = store c.exit.now w.exit.now r.exit.now t.exit.now

-- the same where the texts are not lent, with any texts
abbrev pub rows_before : (control words : Numbers) (reals : Reals) (texts : List ℕ) → Store
rows_before c w r texts = store c.entry.now w.entry.now r.entry.now texts

abbrev pub rows_after : (control words : Numbers) (reals : Reals) (texts : List ℕ) → Store
rows_after c w r texts = store c.exit.now w.exit.now r.exit.now texts

-- a name or an explanation, where it is given
abbrev pub optional : (given : Bool) → List ℕ → Option (List ℕ)
optional true text = some text
optional false text = none

abbrev pub text : (given : Bool) → SharedNumbers → Option (List ℕ)
text given t = optional given t.entry.now

-- the same, lent as an option
abbrev pub given : rust.Option (Bor (List ℕ)) → Option (List ℕ)
given rust.None = none
given (rust.Some t) = some t.now
