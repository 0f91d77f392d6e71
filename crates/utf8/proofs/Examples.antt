-- Texts whose verdict the RFC gives, by computation. Assumes nothing.
use mathlib.Core.Path.{◌≡◌, refl}
use mathlib.Core.Bool.{true, false}
use mathlib.Core.List.{[], ◌∷◌}
use lib.ListN.{replicate}
use Rattle.utf8.specs.Rfc3629.{is_utf8}

-- section 7: "A<NOT IDENTICAL TO><ALPHA>."
not_identical : is_utf8 (0x41 ∷ 0xE2 ∷ 0x89 ∷ 0xA2 ∷ 0xCE ∷ 0x91 ∷ 0x2E ∷ []) ≡ true
unfolding is_utf8
not_identical = refl

-- section 7: "hangugeo"
hangugeo : is_utf8 (0xED ∷ 0x95 ∷ 0x9C ∷ 0xEA ∷ 0xB5 ∷ 0xAD ∷ 0xEC ∷ 0x96 ∷ 0xB4 ∷ []) ≡ true
unfolding is_utf8
hangugeo = refl

-- section 7: "nihongo"
nihongo : is_utf8 (0xE6 ∷ 0x97 ∷ 0xA5 ∷ 0xE6 ∷ 0x9C ∷ 0xAC ∷ 0xE8 ∷ 0xAA ∷ 0x9E ∷ []) ≡ true
unfolding is_utf8
nihongo = refl

-- section 7: U+233B4 behind a byte order mark
stump : is_utf8 (0xEF ∷ 0xBB ∷ 0xBF ∷ 0xF0 ∷ 0xA3 ∷ 0x8E ∷ 0xB4 ∷ []) ≡ true
unfolding is_utf8
stump = refl

-- section 3: "the overlong UTF-8 sequence C0 80"
overlong : is_utf8 (0xC0 ∷ 0x80 ∷ []) ≡ false
unfolding is_utf8
overlong = refl

-- section 3: "the surrogate pair ED A1 8C ED BE B4"
surrogates : is_utf8 (0xED ∷ 0xA1 ∷ 0x8C ∷ 0xED ∷ 0xBE ∷ 0xB4 ∷ []) ≡ false
unfolding is_utf8
surrogates = refl

-- section 3: no character lies past U+10FFFF
past_last : is_utf8 (0xF4 ∷ 0x90 ∷ 0x80 ∷ 0x80 ∷ []) ≡ false
unfolding is_utf8
past_last = refl

-- a long text computes at once
long : is_utf8 (replicate 254 0x61) ≡ true
unfolding is_utf8
long = refl
