-- What the code's answers say of a line. Assumes nothing.
use Rattle.std.specs.Prelude.{ℕ, ◌-◌, ◌≤◌, ◌≡◌, Bool, List, [], ◌∷◌, ◌++◌, Float, ℤ, pos, length, take, drop, Option, Some, None}
use Rattle.std.proofs.Math.Option as math
use Rattle.std.specs.Float.{nan}
use Rattle.script.specs.declared.value.Value.{Value}
use Rattle.script.specs.declared.text.Text.{Text}
use Rattle.script.specs.declared.text.Part.{Part}
use Rattle.script.specs.declared.verb.Kind.{Kind}
use Rattle.script.specs.declared.line.Args.{Args}
use Rattle.script.specs.declared.line.Line.{Line}
use Rattle.script.specs.Words.{words}
use Rattle.script.specs.Text.{text_bytes}
use Rattle.script.specs.Verbs.{row_at, kinds_of}
use Rattle.script.specs.Script.{Arg, number64, number32, signed, float, text, no_text, text_part, Reading, blank, setting, call, no_call, read_args, behind, reading}

-- a text is told by its bytes
unfoldable pub value_told : List ℕ → Value → List Arg
unfolding text_bytes
value_told line Value.Nothing = []
value_told line (Value.U64 n) = number64 n ∷ []
value_told line (Value.U32 n) = number32 n ∷ []
value_told line (Value.I32 z) = signed z ∷ []
value_told line (Value.F32 x) = float x ∷ []
value_told line (Value.Text t) = text (text_bytes line t) ∷ []
value_told line Value.NoText = no_text ∷ []
value_told line (Value.Part p) = text_part p.start p.length ∷ []

abbrev pub word_told : List ℕ → Option Value → math.Option (List Arg)
word_told line (Some v) = math.some (value_told line v)
word_told line None = math.none

-- an argument by itself
abbrev pub one : math.Option Arg → math.Option (List Arg)
one math.none = math.none
one (math.some x) = math.some (x ∷ [])

-- a part of a line
abbrev pub part : (from end : ℕ) → List ℕ → List ℕ
part from end line = take (end - from) (drop from line)

-- the words behind a word that ends at a place: those behind the space there, or none at the end
abbrev pub behind_space : List ℕ → List (List ℕ)
behind_space [] = []
behind_space (c ∷ l) = words l

unfoldable pub words_from : ℕ → List ℕ → List (List ℕ)
unfolding words
words_from at line = behind_space (drop at line)

-- the kind that is asked for, if one is
abbrev pub present : Option Kind → List Kind
present None = []
present (Some k) = k ∷ []

-- what reading a word says: whether there is a value, and what the words from a place on are, whatever kinds are asked for behind it
abbrev pub Stepped : List ℕ → ℕ → Option Kind → Option (Value × ℕ) → Type 0
Stepped line at slot (Some (v, next)) =
    (next ≤ length line)
    × ((length (value_told line v) ≡ length (present slot))
    × ((ks : List Kind) → read_args (present slot ++ ks) (words_from at line) ≡ behind (value_told line v) (read_args ks (words_from next line))))
Stepped line at slot None = (ks : List Kind) → read_args (present slot ++ ks) (words_from at line) ≡ math.none

abbrev pub args_told : List ℕ → Args → List Arg
args_told line a = value_told line a.a ++ (value_told line a.b ++ (value_told line a.c ++ (value_told line a.d ++ [])))

-- the values stand in the first fields: none stands behind a field that has none
abbrev pub InTurn : List ℕ → Args → Type 0
InTurn line a =
    (length (value_told line a.b) ≤ length (value_told line a.a))
    × ((length (value_told line a.c) ≤ length (value_told line a.b)) × (length (value_told line a.d) ≤ length (value_told line a.c)))

abbrev pub args_read : List ℕ → Option Args → math.Option (List Arg)
args_read line (Some a) = math.some (args_told line a)
args_read line None = math.none

abbrev pub ReadInTurn : List ℕ → Option Args → Type 0
ReadInTurn line (Some a) = InTurn line a
ReadInTurn line None = Unit {0}

-- the words behind a word that ends at a place, read as the kinds of a row
pub record Given (line : List ℕ) (at i : ℕ) (in_read : Bool) (r : Option Args) : Type 0 where
  pub reads : args_read line r ≡ read_args (kinds_of in_read (row_at i)) (words_from at line)
  pub in_turn : ReadInTurn line r

abbrev pub told : List ℕ → Line → Reading
told line Line.Blank = blank
told line (Line.Setting v a) = setting v (args_told line a)
told line (Line.Call v a) = call v (args_told line a)
told line Line.NoCall = no_call

abbrev pub LineInTurn : List ℕ → Line → Type 0
LineInTurn line Line.Blank = Unit {0}
LineInTurn line (Line.Setting v a) = InTurn line a
LineInTurn line (Line.Call v a) = InTurn line a
LineInTurn line Line.NoCall = Unit {0}

-- the answer says what the line is, with each argument in its place
pub record Parsed (in_read : Bool) (line : List ℕ) (r : Line) : Type 0 where
  pub reads : told line r ≡ reading in_read line
  pub in_turn : LineInTurn line r

-- ---- the values, by their types

abbrev pub u64_of : Value → ℕ
u64_of Value.Nothing = 0
u64_of (Value.U64 n) = n
u64_of (Value.U32 n) = n
u64_of (Value.I32 z) = 0
u64_of (Value.F32 x) = 0
u64_of (Value.Text t) = 0
u64_of Value.NoText = 0
u64_of (Value.Part p) = 0

abbrev pub u32_of : Value → ℕ
u32_of Value.Nothing = 0
u32_of (Value.U64 n) = 0
u32_of (Value.U32 n) = n
u32_of (Value.I32 z) = 0
u32_of (Value.F32 x) = 0
u32_of (Value.Text t) = 0
u32_of Value.NoText = 0
u32_of (Value.Part p) = 0

abbrev pub i32_of : Value → ℤ
i32_of Value.Nothing = pos 0
i32_of (Value.U64 n) = pos 0
i32_of (Value.U32 n) = pos 0
i32_of (Value.I32 z) = z
i32_of (Value.F32 x) = pos 0
i32_of (Value.Text t) = pos 0
i32_of Value.NoText = pos 0
i32_of (Value.Part p) = pos 0

abbrev pub f32_of : Value → Float
f32_of Value.Nothing = nan
f32_of (Value.U64 n) = nan
f32_of (Value.U32 n) = nan
f32_of (Value.I32 z) = nan
f32_of (Value.F32 x) = x
f32_of (Value.Text t) = nan
f32_of Value.NoText = nan
f32_of (Value.Part p) = nan

abbrev pub text_in : Value → Text
text_in Value.Nothing = record { start = 0; bytes = 0 }
text_in (Value.U64 n) = record { start = 0; bytes = 0 }
text_in (Value.U32 n) = record { start = 0; bytes = 0 }
text_in (Value.I32 z) = record { start = 0; bytes = 0 }
text_in (Value.F32 x) = record { start = 0; bytes = 0 }
text_in (Value.Text t) = t
text_in Value.NoText = record { start = 0; bytes = 0 }
text_in (Value.Part p) = record { start = 0; bytes = 0 }

abbrev pub part_in : Value → Part
part_in Value.Nothing = record { start = 0; length = 0 }
part_in (Value.U64 n) = record { start = 0; length = 0 }
part_in (Value.U32 n) = record { start = 0; length = 0 }
part_in (Value.I32 z) = record { start = 0; length = 0 }
part_in (Value.F32 x) = record { start = 0; length = 0 }
part_in (Value.Text t) = record { start = 0; length = 0 }
part_in Value.NoText = record { start = 0; length = 0 }
part_in (Value.Part p) = p
