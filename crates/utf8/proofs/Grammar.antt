-- The test says yes exactly where the grammar is matched. Assumes nothing.
use Prim.Native.Nat.{ℕ}
use mathlib.Core.Path.{◌≡◌, refl, ap, ◌∙◌}
use mathlib.Core.Bool.{true}
use mathlib.Core.Logic.{◌↔◌}
use mathlib.Core.List.{List, [], ◌∷◌, ◌++◌, Memᴰ}
use mathlib.Core.Option.{Option, none, some}
use Rattle.utf8.specs.Rfc3629.{Range, utf8_char, Sequence, end, octet, Octets, empty, char, within, after, on, goes_on, is_utf8}
use Rattle.utf8.proofs.Rules.{never, and_left, and_right, inside, from_low, to_high, begun, alone}
use Rattle.utf8.proofs.Laws.{joined}

-- the rest of a character, then whole characters
Rest : List Range → List ℕ → Type 0
Rest rs l = (s : List ℕ) × (t : List ℕ) × (l ≡ s ++ t) × Sequence rs s × Octets t

found : (rs : List Range) (l : List ℕ) → goes_on rs l ≡ true → Rest rs l
unfolding goes_on Rest
found [] [] h = ([], [], refl, end, empty)
found (r ∷ rs) [] h = never h
found [] (x ∷ l) h = opened (after utf8_char x) refl (λ rs. found rs l) h
  where
    opened : (o : Option (List Range)) → after utf8_char x ≡ o → ((rs : List Range) → goes_on rs l ≡ true → Rest rs l) → on o (λ rs. goes_on rs l) ≡ true → Rest [] (x ∷ l)
    opened none e rec h = never h
    opened (some rs) e rec h =
        let k = rec rs h in
        let m = begun utf8_char x rs e in
        let o = char m.1 (octet (from_low m.0 x m.2) (to_high m.0 x m.2) k.3) k.4 in
        ([], x ∷ l, refl, end, rw k.2 o)
found (r ∷ rs) (x ∷ l) h =
    let w = and_left (within r x) (goes_on rs l) h in
    let k = found rs l (and_right (within r x) (goes_on rs l) h) in
    (x ∷ k.0, k.1, ap (λ t. x ∷ t) k.2, octet (from_low r x w) (to_high r x w) k.3, k.4)

whole : {s t : List ℕ} → Sequence [] s → Octets t → Octets (s ++ t)
whole end o = o

pub sound : (l : List ℕ) → is_utf8 l ≡ true → Octets l
unfolding is_utf8 Rest
sound l h = let k = found [] l h in rw k.2 (whole k.3 k.4)

matched : {rs : List Range} {s : List ℕ} → Sequence rs s → goes_on rs s ≡ true
unfolding goes_on
matched end = refl
matched (octet {r} {rs} {x} {s} a b q) = rw (inside r x a b) (matched q)

one : {rs : List Range} {s : List ℕ} → Memᴰ rs utf8_char → Sequence rs s → goes_on [] s ≡ true
unfolding goes_on
one m end = refl
one m (octet {r} {rs} {x} {s} a b q) = rw (alone r rs x m a b) (matched q)

pub complete : {l : List ℕ} → Octets l → is_utf8 l ≡ true
unfolding is_utf8
complete empty = refl
complete (char {rs} {s} {t} m q o) = joined [] s t (one m q) ∙ complete o

pub exactly : (l : List ℕ) → is_utf8 l ≡ true ↔ Octets l
exactly l = (sound l, complete)
