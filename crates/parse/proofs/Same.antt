-- Messages that differ in payload alone are read alike: the walks of both go side by side. Assumes nothing.
use Prim.Native.Nat.{ℕ, zero, suc, ◌+◌, ◌-◌, ◌≤◌, ◌<◌, zero-le}
use mathlib.Core.Path.{◌≡◌, refl, sym, subst}
use mathlib.Core.Bool.{Bool, true, false, ◌&&◌, cond}
use mathlib.Core.List.{List, [], ◌∷◌}
use mathlib.Core.Logic.{inl, inr}
use native.Mathlib.Omega.{arith}
use borrow.Author.Tests.{leb-true, le-leb}
use lib.Dec.{leb, ltb, eqb, lit<, lit≤}
use lib.Ieee.{binary32, of_bits}
use lib.Ieee.{Float as Ieee}
use lib.ListN.{length, get_or, length-take, length-drop}
use lib.Seq.{ext_get_or}
use Rattle.utf8.specs.Rfc3629.{is_utf8}
use Rattle.wire.specs.declared.ParseError.{ParseError}
use Rattle.parse.specs.declared.Argument.TheVariants.{None, Uint32, Float, String, PressState}
use Rattle.parse.specs.declared.Progress.{Progress}
use Rattle.std.specs.Prelude.{Ok, Err, Some}
use Rattle.std.specs.Prelude as rust
use Rattle.parse.specs.Table.{Found, row, table, signature_of}
use Rattle.parse.specs.Parse.{Walk, le32, padded, text_at, arguments_of, progress_of, zero_real, with_number, with_real, with_text, needing, read_by, argument_read, word_read, real_read, text_read, variant_read, begun, ended, parsed_as, parsed}
use Rattle.parse.specs.Same.{Outside, payload, Moves, motion_relative, motion_absolute, scroll, Touches, down, motion, States, button, key, keysym, Texts, text_of, SameAs, number_of, Same, numbered, whole, is_in, Alike}

-- ---- the table's rows, by what is payload in them

-- each element of a list has the property
infixr 60 ◌also◌
data Each {A : Type 0} (P : A → Type 0) : List A → Type 0 where
  none : Each P []
  ◌also◌ : {x : A} {l : List A} → P x → Each P l → Each P (x ∷ l)

each : {A : Type 0} (P : A → Type 0) (d : A) → P d → (l : List A) → Each P l → (k : ℕ) → P (get_or l k d)
each P d h [] none k = h
each P d h (x ∷ l) (p also q) zero = p
each P d h (x ∷ l) (p also q) (suc k) = each P d h l q k

data Kind : Found → Type 0 where
  still : {f : Found} → payload (number_of f) ≡ record { from = 0; to = 0 } → Kind f
  moves : {n : ℕ} → Moves n → Kind (row n Float Float None)
  discrete : Kind (row 22 Uint32 Uint32 None)
  stop : Kind (row 23 Uint32 Uint32 Uint32)
  states : {n : ℕ} → States n → Kind (row n Uint32 PressState None)
  touches : {n : ℕ} → Touches n → Kind (row n Uint32 Float Float)
  text : Kind (row 35 String None None)

kinds : Each (Each Kind) table
unfolding payload
kinds =
    (still refl also still refl also still refl also still refl also still refl also none)
    also (still refl also still refl also none)
    also none
    also (still refl also none)
    also (still refl also still refl also still refl also none)
    also (still refl also still refl also still refl also still refl also still refl also none)
    also (still refl also moves motion_relative also none)
    also (still refl also moves motion_absolute also none)
    also (still refl also moves scroll also discrete also stop also none)
    also (still refl also states button also none)
    also (still refl also states key also none)
    also (still refl also touches down also touches motion also still refl also still refl also none)
    also (still refl also states keysym also text also none)
    also none

kind : (interface opcode : ℕ) → Kind (signature_of interface opcode)
unfolding signature_of payload
kind interface opcode =
    each Kind rust.None (still refl) (get_or table interface [])
    (each (Each Kind) [] none table kinds interface) opcode

-- ---- both walks side by side

-- both are malformed alike, or read so far, where this is known
data Both (K : Type 0) (p p' : Progress) : Walk → Walk → Type 0 where
  bad : (e : ParseError) → Both K p p' (Err e) (Err e)
  good : K → Both K p p' (Ok p) (Ok p')

-- the next state, behind a number or a real of four bytes, and behind a text
abbrev word_next : List ℕ → Progress → Progress
word_next m p = with_number p (p.at + 4) (le32 m p.at)

abbrev real_next : List ℕ → Progress → Progress
real_next m p = with_real p (p.at + 4) (of_bits binary32 (le32 m p.at))

abbrev text_next : Progress → (count : ℕ) → Progress
text_next p count = with_text p (p.at + 4 + padded count) (p.at + 4) (count - 1)

-- a press state, and a text, of so many bytes with its closing zero
abbrev pressed : List ℕ → Progress → ℕ → Walk
pressed m p n = cond (leb 0 n && leb n 1) (Ok (word_next m p)) (Err (ParseError.InvalidVariant n))

abbrev judged : List ℕ → Progress → (count : ℕ) → Walk
judged m p count = cond (is_utf8 (text_at m (p.at + 4) count)) (Ok (text_next p count)) (Err ParseError.Utf8)

abbrev counted : List ℕ → Progress → (count : ℕ) → Walk
counted m p count = cond (eqb count 0) (Err ParseError.InvalidNull) (needing m (p.at + 4) (padded count) (judged m p count))

module _ (m m' : List ℕ) (long : length m ≡ length m') where
  needed : {K : Type 0} {p p' : Progress} {v v' : Walk} (at count : ℕ) → (at + count ≤ length m → Both K p p' v v')
      → Both K p p' (needing m at count v) (needing m' at count v')
  unfolding needing
  needed {K} {p} {p'} {v} {v'} at count h = go (leb (at + count) (length m)) refl
    where
      go : (t : Bool) → leb (at + count) (length m) ≡ t → Both K p p' (needing m at count v) (needing m' at count v')
      go true e = rw (← long, e) (h (leb-true (at + count) (length m) e))
      go false e = rw (← long, e) (bad ParseError.EndOfMessage)

  no_argument : {K : Type 0} {p p' : Progress} {w w' : Walk} → Both K p p' w w' → Both K p p' (argument_read None m w) (argument_read None m' w')
  unfolding argument_read read_by
  no_argument (bad e) = bad e
  no_argument (good k) = good k

  word : {K : Type 0} {p p' : Progress} {w w' : Walk} → p.at ≡ p'.at → Both K p p' w w'
      → Both (p.at + 4 ≤ length m) (word_next m p) (word_next m' p') (argument_read Uint32 m w) (argument_read Uint32 m' w')
  unfolding argument_read read_by word_read
  word s (bad e) = bad e
  word {p = p} {p' = p'} s (good k) =
      subst (λ (i : ℕ). Both (p.at + 4 ≤ length m) (word_next m p) (word_next m' p') (word_read m p) (needing m' i 4 (Ok (word_next m' p')))) s
      (needed p.at 4 (λ h. good h))

  real : {K : Type 0} {p p' : Progress} {w w' : Walk} → p.at ≡ p'.at → Both K p p' w w'
      → Both (p.at + 4 ≤ length m) (real_next m p) (real_next m' p') (argument_read Float m w) (argument_read Float m' w')
  unfolding argument_read read_by real_read
  real s (bad e) = bad e
  real {p = p} {p' = p'} s (good k) =
      subst (λ (i : ℕ). Both (p.at + 4 ≤ length m) (real_next m p) (real_next m' p') (real_read m p) (needing m' i 4 (Ok (real_next m' p')))) s
      (needed p.at 4 (λ h. good h))

  -- a press state that is 0 or 1 in both
  state : {K : Type 0} {p p' : Progress} {w w' : Walk} → p.at ≡ p'.at
      → (p.at + 4 ≤ length m → (le32 m p.at ≤ 1) × (le32 m' p'.at ≤ 1)) → Both K p p' w w'
      → Both (p.at + 4 ≤ length m) (word_next m p) (word_next m' p') (argument_read PressState m w) (argument_read PressState m' w')
  unfolding argument_read read_by variant_read
  state s known (bad e) = bad e
  state {p = p} {p' = p'} s known (good k) =
      subst (λ (i : ℕ). Both (p.at + 4 ≤ length m) (word_next m p) (word_next m' p') (variant_read 0 1 m p) (needing m' i 4 (pressed m' p' (le32 m' p'.at)))) s
      (needed p.at 4 (λ h. let n = known h in rw (le-leb _ 1 n.0, le-leb _ 1 n.1, le-leb 0 _ zero-le, le-leb 0 _ zero-le) (good h)))

  -- a text that is the same in both, or UTF-8 in both
  text_alike : (p : Progress) → le32 m p.at ≡ le32 m' p.at
      → (p.at + 4 + padded (le32 m p.at) ≤ length m → Texts (text_at m (p.at + 4) (le32 m p.at)) (text_at m' (p.at + 4) (le32 m p.at)))
      → Both (p.at + 4 + padded (le32 m p.at) ≤ length m) (text_next p (le32 m p.at)) (text_next p (le32 m p.at)) (text_read m p) (text_read m' p)
  unfolding text_read
  text_alike p e known =
      subst (λ (n : ℕ). Both Room (text_next p count) (text_next p count) (text_read m p) (needing m' p.at 4 (counted m' p n))) e
      (needed p.at 4 (λ h. null (eqb count 0)))
    where
      count : ℕ
      count = le32 m p.at

      Room : Type 0
      Room = p.at + 4 + padded count ≤ length m

      tested : Room → Texts (text_at m (p.at + 4) count) (text_at m' (p.at + 4) count) → Both Room (text_next p count) (text_next p count) (judged m p count) (judged m' p count)
      tested h (inr (t, t')) = rw (t, t') (good h)
      tested h (inl q) = rw (← q) (by (is_utf8 (text_at m (p.at + 4) count)))
        where
          by : (t : Bool) → Both Room (text_next p count) (text_next p count) (cond t (Ok (text_next p count)) (Err ParseError.Utf8)) (cond t (Ok (text_next p count)) (Err ParseError.Utf8))
          by true = good h
          by false = bad ParseError.Utf8

      null : (t : Bool) → Both Room (text_next p count) (text_next p count)
          (cond t (Err ParseError.InvalidNull) (needing m (p.at + 4) (padded count) (judged m p count)))
          (cond t (Err ParseError.InvalidNull) (needing m' (p.at + 4) (padded count) (judged m' p count)))
      null true = bad ParseError.InvalidNull
      null false = needed (p.at + 4) (padded count) (λ h. tested h (known h))

  -- behind the last argument
  last : {K : Type 0} {p p' : Progress} {w w' : Walk} → p.at ≡ p'.at → (K → Alike m m' (Ok p.read) (Ok p'.read)) → Both K p p' w w'
      → Alike m m' (ended m w) (ended m' w')
  unfolding ended
  last s a (bad e) = Alike.malformed e
  last {p = p} {p' = p'} s a (good k) = go (ltb p.at (length m)) refl
    where
      go : (t : Bool) → ltb p.at (length m) ≡ t → Alike m m' (ended m (Ok p)) (ended m' (Ok p'))
      go true e = rw (← long, ← s, e) (Alike.malformed _)
      go false e = rw (← long, ← s, e) (a k)

-- ---- each kind of request

-- nothing is read yet
abbrev start : (request : ℕ) → Progress
start n = progress_of 16 0 0 (arguments_of n 0 0 0 0 0 zero_real zero_real)

begin : (n : ℕ) → Both (Unit {0}) (start n) (start n) (begun n) (begun n)
unfolding begun
begin n = good tt

-- the header is no payload
header : (n i : ℕ) → i < 16 → Outside (payload n) i
unfolding payload
header n i h = go (is_in (17 ∷ 19 ∷ 21 ∷ 22 ∷ 23 ∷ 25 ∷ 27 ∷ 34 ∷ []) n) (is_in (29 ∷ 30 ∷ []) n) (eqb n 35)
  where
    go : (a b c : Bool)
        → Outside (cond a (record { from = 16; to = 24 }) (cond b (record { from = 20; to = 28 }) (cond c (record { from = 20; to = 1024 }) (record { from = 0; to = 0 })))) i
    go true b c = inl h
    go false true c = inl (omega arith)
    go false false true = inl (omega arith)
    go false false false = inr zero-le

module _ (m m' : List ℕ) where
  -- four equal bytes are the same number
  same32 : (at : ℕ) → ((i : ℕ) → i < 4 → get_or m (at + i) 0 ≡ get_or m' (at + i) 0) → get_or m at 0 ≡ get_or m' at 0 → le32 m at ≡ le32 m' at
  unfolding le32
  same32 at b z = rw (z, b 1 (lit< tt), b 2 (lit< tt), b 3 (lit< tt))

  stop_alike : (a b a' b' : ℕ) {c c' : ℕ} → c ≡ c' → Alike m m' (whole 23 a b c) (whole 23 a' b' c')
  stop_alike a b a' b' {c} e = subst (λ (n : ℕ). Alike m m' (whole 23 a b c) (whole 23 a' b' n)) e (Alike.stop a b a' b' c)

  touch_alike : {n : ℕ} → Touches n → {id id' : ℕ} (x y x' y' : Ieee) → id ≡ id' → Alike m m' (numbered n id 0 0 x y) (numbered n id' 0 0 x' y')
  touch_alike {n} k {id} x y x' y' e = subst (λ (i : ℕ). Alike m m' (numbered n id 0 0 x y) (numbered n i 0 0 x' y')) e (Alike.touches k id x y x' y')

  -- what stands first, where it is no payload
  first_same : {n : ℕ} → SameAs n m m' → (payload n).from ≡ 20 → le32 m 16 ≡ le32 m' 16
  first_same s e = same32 16 (λ i h. s.bytes (16 + i) (inl (rw e (omega arith)))) (s.bytes 16 (inl (rw e (lit< tt))))

  module _ (interface : ℕ) where
    alike_by : {f : Found} → Kind f → SameAs (number_of f) m m' → Alike m m' (parsed_as interface m f) (parsed_as interface m' f)
    unfolding parsed_as begun with_number with_real with_text payload
    alike_by {f} (still e) s =
        subst (λ (l : List ℕ). Alike m l (parsed_as interface m f) (parsed_as interface l f))
        (ext_get_or 0 m m' s.long (λ i h. s.bytes i (rw e (inr zero-le))))
        (Alike.equal refl)
    alike_by (moves {n} k) s =
        let l = s.long in
        last m m' l refl (λ h. Alike.moves k _ _ _ _) (no_argument m m' l (real m m' l refl (real m m' l refl (begin n))))
    alike_by discrete s =
        let l = s.long in
        last m m' l refl (λ h. Alike.discrete _ _ _ _) (no_argument m m' l (word m m' l refl (word m m' l refl (begin 22))))
    alike_by stop s =
        let l = s.long in
        last m m' l refl
        (λ h. stop_alike _ _ _ _ (same32 24 (λ i k. s.bytes (24 + i) (inr (omega arith))) (s.bytes 24 (inr (lit≤ tt)))))
        (word m m' l refl (word m m' l refl (word m m' l refl (begin 23))))
    alike_by (states {n} k) s =
        let l = s.long in
        last m m' l refl (λ h. Alike.states k _ _ _ _ (s.states k h).0 (s.states k h).1)
        (no_argument m m' l (state m m' l refl (λ h. s.states k h) (word m m' l refl (begin n))))
    alike_by (touches {n} k) s =
        let l = s.long in
        last m m' l refl (λ h. touch_alike k _ _ _ _ (first_same s (from k))) (real m m' l refl (real m m' l refl (word m m' l refl (begin n))))
      where
        from : {n : ℕ} → Touches n → (payload n).from ≡ 20
        from down = refl
        from motion = refl
    alike_by text s =
        let l = s.long in
        let e = first_same s refl in
        let known : 20 + padded (le32 m 16) ≤ length m → Texts (text_at m 20 (le32 m 16)) (text_at m' 20 (le32 m 16)) =
        (λ h. subst (λ (n : ℕ). Texts (text_of m) (text_at m' 20 n)) (sym e) (s.texts refl h)) in
        last m m' l refl (λ h. Alike.text 20 (le32 m 16 - 1) (simp (length-take, length-drop, l)) (known h))
        (no_argument m m' l (no_argument m m' l (text_alike m m' l (start 35) e known)))

-- messages that differ in payload alone are read alike
pub alike : (interface : ℕ) (m m' : List ℕ) → Same interface m m' → Alike m m' (parsed interface m) (parsed interface m')
unfolding parsed
alike interface m m' s =
    let n = number_of (signature_of interface (le32 m 12)) in
    let e = same32 m m' 12 (λ i h. s.bytes (12 + i) (header n (12 + i) (omega arith))) (s.bytes 12 (header n 12 (lit< tt))) in
    subst (λ (o : ℕ). Alike m m' (parsed interface m) (parsed_as interface m' (signature_of interface o))) e
    (alike_by m m' interface (kind interface (le32 m 12)) s)
