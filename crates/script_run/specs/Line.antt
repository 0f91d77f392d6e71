-- The text of a line. Assumes nothing.
use Rattle.std.specs.Prelude.{ℕ, Bool, true, false, cond, List, take}
use Rattle.script.specs.declared.value.Value.{Value}
use Rattle.script.specs.declared.text.Text.{Text}
use Rattle.script.specs.declared.line.Args.{Args}
use Rattle.script.specs.Text.{text_bytes}
use Rattle.script.specs.Told.{text_in}

abbrev pub has_text : Value → Bool
has_text Value.Nothing = false
has_text (Value.U64 n) = false
has_text (Value.U32 n) = false
has_text (Value.I32 z) = false
has_text (Value.F32 x) = false
has_text (Value.Text t) = true
has_text Value.NoText = false
has_text (Value.Part p) = false

-- the text of a line stands first or second behind its first word
abbrev pub is_given : Args → Bool
is_given w = cond (has_text w.a) true (has_text w.b)

abbrev pub text_first : Args → Text
text_first w = cond (has_text w.a) (text_in w.a) (text_in w.b)

-- the bytes that are lent of a text: 32,768 at most, which is more than a line of 65,536 bytes has
abbrev pub lent_text : (line : List ℕ) → Text → List ℕ
lent_text line t = take 32768 (text_bytes line t)

-- those of the line's own, which is the empty text where there is none
unfoldable pub line_text : (line : List ℕ) → Args → List ℕ
unfolding text_bytes
line_text line w = lent_text line (text_first w)
