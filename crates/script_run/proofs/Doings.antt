-- What the functions of a line have of what they call. Assumes nothing.
use Rattle.std.proofs.Common.{◌≡◌, ℕ, ◌+◌, min, Bool, true, false, cond, List, [], length, take, refl, sym, ap, ◌∙◌, arith, length-take, take_all, take-take}
use mathlib.Core.Bool.{false≢true}
use Rattle.std.specs.Borrow.{Bor}
use Rattle.std.specs.Prelude.{Option}
use Rattle.std.specs.Bool.{then_some}
use Rattle.script.specs.declared.value.Value.{Value}
use Rattle.script.specs.declared.line.Args.{Args}
use Rattle.script.specs.Told.{text_in}
use Rattle.script_calls.specs.Station.{is_lent, lent_bytes}
use Rattle.script_run.specs.Line.{has_text, is_given, text_first, lent_text, line_text}
use lib.Seq.{take-paste}
use Rattle.handshake.specs.View.{request_of, Handled}
use Rattle.handshake.specs.declared.handshake.EisHandshaker.{EisHandshaker}
use Rattle.handshake.specs.declared.handshake.HandshakeMessage.{HandshakeMessage}
use Rattle.handshake.specs.declared.handshake.HandshakeAnswer.{HandshakeAnswer}
use Rattle.script.specs.declared.line.Line.{Line}
use Rattle.script.specs.Text.{text_bytes, bytes_of, Copied}
use Rattle.script.specs.Told.{Parsed}
use Rattle.script_session.specs.Lent.{InRoom}

-- what a line was read as
pub read_as : {in_read : Bool} {line : List ℕ} {l m : Line} → l ≡ m → Parsed in_read line l → Parsed in_read line m
read_as p h = rw p at h

-- the same request, told otherwise
pub for_message : {said : ℕ} {out exit : List ℕ} {h : EisHandshaker} {m n : HandshakeMessage} {a : HandshakeAnswer} (text : List ℕ) → m ≡ n
    → InRoom said out exit (λ lent later. Handled h (request_of m text) lent later a) → InRoom said out exit (λ lent later. Handled h (request_of n text) lent later a)
for_message text p h = rw p at h

-- as many bytes as a list has are all of them
take-least : (n m : ℕ) (l : List ℕ) → n ≡ min (length l) m → take n l ≡ take m l
take-least n m l e = sym (take-take n m l (omega (arith, e))) ∙ take_all n (take m l) (omega (arith, length-take m l, e))

-- the part of a buffer that a text was put into
pub text-lent : {text before after : List ℕ} {n m : ℕ} → length before ≡ m → Copied text before after n → take n after ≡ take m text
text-lent {text} {before} {after} {n} {m} e h =
    let z : n ≡ 0 + n = omega arith in
    ap (λ (k : ℕ). take k after) z ∙ ap (λ (l : List ℕ). take (0 + n) l) h.bytes ∙ take-paste before 0 text n (omega arith) (omega (arith, h.count))
    ∙ take-least n m text (h.count ∙ ap (min (length text)) e)

-- a test does not go both ways
pub never : {A : Type 0} {b : Bool} → b ≡ false → b ≡ true → A
never p q = absurd (false≢true (sym p ∙ q))

-- ---- the text of a line, as it is lent

-- a line without a text has the empty one
no_text : (line : List ℕ) (v w : Value) → cond (has_text v) true (has_text w) ≡ false → lent_text line (cond (has_text v) (text_in v) (text_in w)) ≡ []
unfolding text_bytes bytes_of
no_text line v w e = go (has_text v) e w
  where
    second : (w : Value) → has_text w ≡ false → lent_text line (text_in w) ≡ []
    second Value.Nothing e = refl
    second (Value.U64 n) e = refl
    second (Value.U32 n) e = refl
    second (Value.I32 z) e = refl
    second (Value.F32 x) e = refl
    second (Value.Text t) e = absurd (false≢true (sym e))
    second Value.NoText e = refl
    second (Value.Part p) e = refl

    go : (b : Bool) → cond b true (has_text w) ≡ false → (w' : Value) → lent_text line (cond b (text_in v) (text_in w)) ≡ []
    go true e w' = absurd (false≢true (sym e))
    go false e w' = second w e

lent_flag : (b : Bool) (t : Bor (List ℕ)) → is_lent (then_some b t) ≡ b
lent_flag true t = refl
lent_flag false t = refl

lent_words : (b : Bool) (t : Bor (List ℕ)) (l : List ℕ) → t.now ≡ l → (b ≡ false → l ≡ []) → lent_bytes (then_some b t) ≡ l
lent_words true t l h n = h
lent_words false t l h n = sym (n refl)

-- the bytes that were copied count where the line has a text
pub lent_where : (line : List ℕ) (w : Args) (t : Bor (List ℕ)) {b : Bool} {o : Option (Bor (List ℕ))} → b ≡ is_given w → t.now ≡ lent_text line (text_first w) → o ≡ then_some b t
    → (is_lent o ≡ is_given w) × (lent_bytes o ≡ line_text line w)
unfolding line_text
lent_where line w t {o = o} e h p =
    let q : o ≡ then_some (is_given w) t = p ∙ ap (λ (b : Bool). then_some b t) e in
    (ap is_lent q ∙ lent_flag (is_given w) t, ap lent_bytes q ∙ lent_words (is_given w) t (lent_text line (text_first w)) h (λ n. no_text line w.a w.b n))
