-- What a cell means: numbers within their fields are kept, and the kind tells whether it is a text and whether it is timed. Assumes nothing.
use Prim.Native.Nat.{ℕ, zero, suc, ◌+◌, ◌-◌, ◌≤◌, ◌<◌, ◌%◌}
use mathlib.Core.Path.{◌≡◌, refl, sym, ap, ◌∙◌}
use mathlib.Core.Bool.{Bool, true, false, cond, false≢true}
use mathlib.Core.List.{List, [], ◌∷◌, ◌++◌, map}
use mathlib.Core.Logic.{◌⊎◌, inl, inr, ⊎_elim, dite}
use native.Mathlib.Omega.{arith}
use native.Mathlib.Decide.{dec_lt}
use borrow.Author.Tests.{lt-ltb, le-leb, lt-leb, leb-true, ne_eqb}
use lib.Dec.{eqb, ltb, eqb-zero-suc, eqb-suc-zero, eqb-suc-suc}
use lib.Ieee.{Float}
use lib.ListN.{get_or, drop, replicate, get_or-replicate, get_or-append, get_or-eq_default, get_or-map}
use lib.Seq.{get_or-drop, get_or-set_same, set-get_or}
use Rattle.eiproto.specs.Enum.{button_state_number, key_state_number}
use Rattle.eiproto.specs.declared.eiproto_enum.ButtonState.{ButtonState}
use Rattle.eiproto.specs.declared.eiproto_enum.KeyState.{KeyState}
use Rattle.requests.specs.declared.cell.Cell.{Cell}
use Rattle.requests.specs.declared.request.EisRequest.{EisRequest}
use Rattle.requests.specs.declared.request.EisRequest.TheVariants.{Disconnect, ScrollStop}
use Rattle.requests.specs.Request.{framed_request, is_text}
use Rattle.requests.specs.Row.{first_timed, text_kind, timed_kind, texts_limit, no_slot, low, key_state, button_state, cell_of, meanings, request_of, row_of, entry, framed_row, cell_at, row_at}

-- a number within its field is not cut
pub low_is : (n : ℕ) → n < 4294967296 → low n ≡ n
low_is n h = omega arith

pub byte_is : (n : ℕ) → n < 256 → n % 256 ≡ n
byte_is n h = omega arith

pub button_is : (s : ButtonState) → button_state (button_state_number s) ≡ s
button_is ButtonState.Released = refl
button_is ButtonState.Press = refl

pub key_is : (s : KeyState) → key_state (key_state_number s) ≡ s
key_is KeyState.Released = refl
key_is KeyState.Press = refl

-- a list of tests that only the last passes
only_last : (n k : ℕ) → get_or (replicate n false ++ (true ∷ [])) k false ≡ eqb k n
only_last zero zero = refl
only_last zero (suc k) = sym (eqb-suc-zero k)
only_last (suc n) zero = sym (eqb-zero-suc n)
only_last (suc n) (suc k) = only_last n k ∙ sym (eqb-suc-suc k n)

-- the texts are the cells of their kind
pub kind-text : (c : Cell) → is_text (request_of c) ≡ eqb c.kind text_kind
unfolding request_of
kind-text c = sym (get_or-map is_text (meanings c) c.kind Disconnect) ∙ only_last text_kind c.kind

chosen : (b : Bool) (s : ℕ) → b ≡ ltb (cond b (s % texts_limit) no_slot) texts_limit
chosen true s = sym (lt-ltb (s % texts_limit) texts_limit (omega arith))
chosen false s = refl

-- a row's slot tells whether it has a text
pub slot-text : (words : List ℕ) (reals : List Float) (i : ℕ) → is_text (row_at words reals i).request ≡ ltb (row_at words reals i).slot texts_limit
unfolding row_at row_of entry
slot-text words reals i = let c = cell_at words reals i in chosen (is_text (request_of c)) c.flag

-- what the test of the timed kinds tells
timed-within : (k : ℕ) → timed_kind k ≡ true → (first_timed ≤ k) × (k ≤ text_kind)
timed-within k e =
    dite (dec_lt k first_timed) (λ l. absurd (false≢true (sym (rw (lt-leb first_timed k l)) ∙ e)))
    (λ n. let h : first_timed ≤ k = omega arith in (h, leb-true k text_kind (sym (rw (le-leb first_timed k h)) ∙ e)))

untimed-outside : (k : ℕ) → timed_kind k ≡ false → (k < first_timed) ⊎ (text_kind < k)
untimed-outside k e =
    dite (dec_lt k first_timed) (λ l. inl l)
    (λ n.
    dite (dec_lt text_kind k) (λ l. inr l)
    (λ m. let h : first_timed ≤ k = omega arith in let i : k ≤ text_kind = omega arith in absurd (false≢true (sym e ∙ rw (le-leb first_timed k h, le-leb k text_kind i)))))

module _ (c : Cell) (d t : ℕ) where
  -- the cell on the device d at the time t
  abbrev at : Cell
  at = cell_of c.kind d t c.extra c.flag c.x c.y

  abbrev stop : EisRequest
  stop = ScrollStop d t false false

  framed_is : framed_request d t (request_of c) ≡ get_or (map (framed_request d t) (meanings c)) c.kind stop
  unfolding request_of
  framed_is = sym (get_or-map (framed_request d t) (meanings c) c.kind Disconnect)

  -- among the timed kinds the default does not count
  late : first_timed ≤ c.kind → c.kind ≤ text_kind → request_of at ≡ framed_request d t (request_of c)
  unfolding request_of
  late h k =
      let j : ℕ = c.kind - first_timed in
      let e : first_timed + j ≡ c.kind = omega arith in
      let l : List EisRequest = drop first_timed (meanings at) in
      ap (λ (i : ℕ). get_or (meanings at) i Disconnect) (sym e)
      ∙ sym (get_or-drop first_timed (meanings at) j Disconnect)
      ∙ sym (get_or-set_same l j (get_or l j Disconnect) stop (omega arith))
      ∙ ap (λ (m : List EisRequest). get_or m j stop) (set-get_or l j Disconnect)
      ∙ get_or-drop first_timed (map (framed_request d t) (meanings c)) j stop
      ∙ ap (λ (i : ℕ). get_or (map (framed_request d t) (meanings c)) i stop) e
      ∙ sym framed_is

  -- the others are not
  lost : (c.kind < first_timed) ⊎ (text_kind < c.kind) → framed_request d t (request_of c) ≡ stop
  lost (inl h) = framed_is ∙ get_or-append (replicate first_timed stop) (drop first_timed (meanings at)) stop c.kind h ∙ get_or-replicate first_timed c.kind stop stop h
  lost (inr h) = framed_is ∙ get_or-eq_default (map (framed_request d t) (meanings c)) stop h

  pub framed_row_lem : timed_kind c.kind ≡ true → row_of at ≡ framed_row d t (row_of c)
  unfolding row_of entry framed_row
  framed_row_lem h i = record { request = late (timed-within c.kind h).0 (timed-within c.kind h).1 i; slot = cond ((kind-text at ∙ sym (kind-text c)) i) (c.flag % texts_limit) no_slot }

  no_text : (c.kind < first_timed) ⊎ (text_kind < c.kind) → is_text (request_of c) ≡ false
  no_text o = kind-text c ∙ ne_eqb c.kind text_kind (λ e. ⊎_elim (λ h. omega arith) (λ h. omega arith) o)

  pub lost-row : timed_kind c.kind ≡ false → entry stop no_slot ≡ framed_row d t (row_of c)
  unfolding row_of entry framed_row
  lost-row h i =
      let o = untimed-outside c.kind h in
      record { request = sym (lost o) i; slot = cond (sym (no_text o) i) (c.flag % texts_limit) no_slot }
