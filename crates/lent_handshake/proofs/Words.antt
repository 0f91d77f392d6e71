-- The words of a handshake: when they are one's, its versions one after another, and the handshake word by word. Assumes nothing.
use Prim.Native.Nat.{ℕ, zero, suc, ◌+◌, ◌-◌, ◌%◌, ◌≤◌, ◌<◌}
use mathlib.Core.Path.{◌≡◌, refl, sym, ap, ◌∙◌}
use mathlib.Core.Bool.{Bool, true, false, cond, ◌&&◌, false≢true}
use mathlib.Core.List.{List, [], ◌∷◌, ◌++◌}
use mathlib.Core.Option.{Option, none, some}
use native.Mathlib.Nat.{mod-eq_of_lt}
use native.Mathlib.Numerals.{add-one}
use native.Mathlib.Omega.{arith}
use borrow.Author.Tests.{eqb-true, eq-eqb}
use lib.Dec.{eqb, leb}
use lib.ListN.{length, get_or, set, take, length-map}
use lib.Seq.{take-suc, take-suc-set, take_all, get_or-set_same, get_or-set_other}
use Rattle.eiproto.specs.Enum.{context_type_number}
use Rattle.eiproto.specs.declared.eiproto_enum.ContextType.{ContextType}
use Rattle.std.specs.Prelude as rust
use Rattle.std.specs.Int.{from_bool}
use Rattle.eiproto.specs.Told.{told}
use Rattle.handshake.specs.View.{name_of, versions_of, view_of, is_sound}
use Rattle.handshake.specs.declared.handshake.EisHandshaker.{EisHandshaker}
use Rattle.handshake.proofs.Reports.{row_at, versions-set}
use Rattle.control.specs.Table.{tab}
use Rattle.control.proofs.Tables.{tab-append, tab_push}
use Rattle.lent_handshake.specs.Lent.{handshake_length, name_length, version_at, context_at, name_at, handshake_in, is_lent, is_held}

-- ---- the lengths, and the one count

pub both : (a b : Bool) → (a && b) ≡ true → (a ≡ true) × (b ≡ true)
both true b e = (refl, e)
both false b e = absurd (false≢true e)

pub lent_parts : (w n : List ℕ) → is_lent w n ≡ true → (length w ≡ handshake_length) × (length n ≡ name_length)
unfolding is_lent
lent_parts w n e =
    let p = both (eqb (length w) handshake_length) (eqb (length n) name_length) e in
    (eqb-true (length w) handshake_length p.0, eqb-true (length n) name_length p.1)

pub lent_is : (w n : List ℕ) → length w ≡ handshake_length → length n ≡ name_length → is_lent w n ≡ true
unfolding is_lent
lent_is w n p q = ap (λ (b : Bool). b && eqb (length n) name_length) (eq-eqb (length w) handshake_length p) ∙ eq-eqb (length n) name_length q

-- of slices that have a handshake's lengths the length of the name is left
pub held-rest : (w n : List ℕ) → is_lent w n ≡ true → is_held w n ≡ leb (get_or w 0 0) name_length
unfolding is_held
held-rest w n l = ap (λ (b : Bool). b && leb (get_or w 0 0) name_length) l

pub unlent_held : (w n : List ℕ) → is_lent w n ≡ false → is_held w n ≡ false
unfolding is_held
unlent_held w n l = ap (λ (b : Bool). b && leb (get_or w 0 0) name_length) l

pub held-sound : (w n : List ℕ) (h : EisHandshaker) → is_lent w n ≡ true → h.name.length ≡ get_or w 0 0 → is_held w n ≡ is_sound h
unfolding is_sound
held-sound w n h l e = held-rest w n l ∙ ap (λ (x : ℕ). leb x name_length) (sym e)

pub words_long : (w n : List ℕ) → is_lent w n ≡ true → length w ≡ 17
words_long w n e = (lent_parts w n e).0

pub name_long : (w n : List ℕ) → is_lent w n ≡ true → length n ≡ 254
name_long w n e = (lent_parts w n e).1

-- ---- one version, one context type

pub version_below : (n k : ℕ) → (n ≡ 0 → ⊥) → k ≡ (n - 1) % 4294967296 → some k ≡ version_at n
unfolding version_at
version_below zero k p e = absurd (p refl)
version_below (suc n) k p e = ap some (e ∙ ap (λ (x : ℕ). x % 4294967296) (omega arith))

pub version-above : (n : ℕ) → n < 4294967296 → version_at (n + 1) ≡ some n
unfolding version_at
version-above n l = rw add-one (ap some (mod-eq_of_lt l))

pub context_number_lem : (c : ContextType) → context_at (context_type_number c) ≡ some c
unfolding context_at
context_number_lem ContextType.Receiver = refl
context_number_lem ContextType.Sender = refl

-- whether the name was said, as a word
pub said_word : (b : Bool) → b ≡ eqb (from_bool b) 1
said_word true = refl
said_word false = refl

-- ---- the versions, one after another

abbrev pub versions_in : List ℕ → ℕ → Option ℕ
versions_in w j = version_at (get_or w (5 + j) 0)

module _ (w : List ℕ) (rows : List (rust.Option ℕ)) (i : ℕ) where
  pub load-next : (row : rust.Option ℕ) → i < length rows → told row ≡ versions_in w i → take i (versions_of rows) ≡ tab i (versions_in w)
      → take (i + 1) (versions_of (set rows i row)) ≡ tab (i + 1) (versions_in w)
  load-next row l e h =
      let k : i < length (versions_of rows) = rw length-map l in
      rw (add-one, versions-set rows i row, take-suc-set (versions_of rows) i (told row) k, tab-append i (versions_in w), h, e)

  pub load_all : length rows ≡ 12 → i ≡ 12 → take i (versions_of rows) ≡ tab i (versions_in w) → versions_of rows ≡ (handshake_in w []).versions
  unfolding handshake_in
  load_all l e h =
      let k : length (versions_of rows) ≤ i = rw length-map (omega arith) in
      sym (take_all i (versions_of rows) k) ∙ h ∙ ap (λ (x : ℕ). tab x (versions_in w)) e

  pub store-next : (word : ℕ) (d : rust.Option ℕ) → i < length rows → 5 + i < length w → version_at word ≡ told (get_or rows i d) → tab i (versions_in w) ≡ take i (versions_of rows)
      → tab (i + 1) (versions_in (set w (5 + i) word)) ≡ take (i + 1) (versions_of rows)
  store-next word d l m e h =
      let k : i < length (versions_of rows) = rw length-map l in
      tab_push i (i + 1) (versions_in w) (versions_in (set w (5 + i) word)) (told (get_or rows i d)) refl
      (ap version_at (get_or-set_same w (5 + i) word 0 m) ∙ e)
      (λ j q. ap version_at (get_or-set_other w (5 + i) (5 + j) word 0 (λ z. omega arith)))
      ∙ ap (λ (xs : List (Option ℕ)). xs ++ (told (get_or rows i d) ∷ [])) h
      ∙ sym (rw (add-one, take-suc (versions_of rows) i none k, row_at rows i d l))

  pub store_all : length rows ≡ 12 → i ≡ 12 → tab i (versions_in w) ≡ take i (versions_of rows) → (handshake_in w []).versions ≡ versions_of rows
  store_all l e h = sym (load_all l e (sym h))

-- ---- the handshake, word by word

pub words_are : (w n : List ℕ) (h : EisHandshaker) → h.name.bytes ≡ n → h.name.length ≡ get_or w 0 0 → h.name.given ≡ eqb (get_or w 1 0) 1
    → told h.context ≡ context_at (get_or w 2 0) → h.serial ≡ get_or w 3 0 % 4294967296 → h.next ≡ get_or w 4 0
    → versions_of h.interfaces ≡ (handshake_in w []).versions → view_of h ≡ handshake_in w n
unfolding view_of name_of name_at handshake_in
words_are w n h bytes long given context serial next versions =
    λ i. record { name = cond (given i) (some (take (long i) (bytes i))) none; context_type = context i; versions = versions i; initial_serial = serial i; next_id = next i }

-- the five words before the versions, stored
abbrev pub headed : (w : List ℕ) (long given context serial next : ℕ) → List ℕ
headed w long given context serial next = set (set (set (set (set w 0 long) 1 given) 2 context) 3 serial) 4 next

module _ (m : List ℕ) (h : EisHandshaker) (given context : ℕ) where
  abbrev stored : List ℕ → List ℕ
  stored w = headed w h.name.length given context h.serial h.next

  pub store_is : (w : List ℕ) → length w ≡ handshake_length → h.name.given ≡ eqb given 1 → context_at context ≡ told h.context → h.serial < 4294967296
      → m ≡ h.name.bytes → (handshake_in w []).versions ≡ versions_of h.interfaces → handshake_in (stored w) m ≡ view_of h
  unfolding handshake_in tab
  store_is (a ∷ b ∷ c ∷ d ∷ e ∷ w) l g k s y v =
      sym (words_are (stored (a ∷ b ∷ c ∷ d ∷ e ∷ w)) m h (sym y) refl g (sym k) (sym (mod-eq_of_lt s)) refl (sym v))
  store_is (a ∷ b ∷ c ∷ d ∷ []) l g k s y v = absurd (omega arith)
  store_is (a ∷ b ∷ c ∷ []) l g k s y v = absurd (omega arith)
  store_is (a ∷ b ∷ []) l g k s y v = absurd (omega arith)
  store_is (a ∷ []) l g k s y v = absurd (omega arith)
  store_is [] l g k s y v = absurd (omega arith)

  pub store-held : (w : List ℕ) → length w ≡ handshake_length → length m ≡ name_length → is_sound h ≡ true → is_held (stored w) m ≡ true
  unfolding is_sound
  store-held (a ∷ b ∷ c ∷ d ∷ e ∷ w) l k s = held-rest (stored (a ∷ b ∷ c ∷ d ∷ e ∷ w)) m (lent_is (stored (a ∷ b ∷ c ∷ d ∷ e ∷ w)) m l k) ∙ s
  store-held (a ∷ b ∷ c ∷ d ∷ []) l k s = absurd (omega arith)
  store-held (a ∷ b ∷ c ∷ []) l k s = absurd (omega arith)
  store-held (a ∷ b ∷ []) l k s = absurd (omega arith)
  store-held (a ∷ []) l k s = absurd (omega arith)
  store-held [] l k s = absurd (omega arith)
