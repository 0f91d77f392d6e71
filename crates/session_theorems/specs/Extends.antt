-- A call that is lent a part of a session promises something of every whole session that has this part (`Answered`). There always is one. Assumes nothing.
use Rattle.std.specs.Prelude.{ℕ, ◌≡◌, true, List, Float}
use Rattle.control.specs.Sound.{is_sound}
use Rattle.session.specs.View.{store, is_lent, is_whole}

-- control words that 21's test lets pass are those of a whole session
abbrev pub SoundExtends : Type 0
SoundExtends = (c : List ℕ) → is_sound c ≡ true → (w : List ℕ) × ((q : List Float) × ((t : List ℕ) × (is_whole (store c w q t) ≡ true)))

-- so are control words with the rows of requests
abbrev pub LentExtends : Type 0
LentExtends = (c w : List ℕ) (q : List Float) → is_lent c w q ≡ true → (t : List ℕ) × (is_whole (store c w q t) ≡ true)
