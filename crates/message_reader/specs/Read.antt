-- The values of a message, as the code reads them: leniently, for none of them is taken before the message is written again. Assumes nothing.
use Rattle.std.specs.Prelude.{ℕ, ◌+◌, ◌-◌, ◌≤◌, cond, ◌&&◌, List, ◌≡◌, eqb, leb, length, take, drop}
use Rattle.std.proofs.Math.Option.{Option, none, some}
use Rattle.eiproto.specs.Interface.{lookup}
use Rattle.parse.specs.Parse.{le32, le64}
use Rattle.event_messages.specs.Message.{padded}
use Rattle.event_messages.specs.declared.EventArgument.{EventArgument}
use Rattle.event_messages.specs.declared.EventArgument.TheVariants.{None, Uint32, Uint64, Interface, Reason, DeviceType, Text, Explanation}
use Rattle.event_messages.specs.declared.Shape.{Shape}
use Rattle.message_reader.specs.declared.TextPart.{TextPart}
use Rattle.message_reader.specs.declared.ReadSoFar.{ReadSoFar}
use Rattle.message_reader.specs.declared.Read.{Read}

-- ---- at a place

-- a number, 0 where the message ends before
unfoldable pub word_at : (message : List ℕ) → (at : ℕ) → ℕ
unfolding le32
word_at m at = cond (leb (at + 4) (length m)) (le32 m at) 0

unfoldable pub double_at : (message : List ℕ) → (at : ℕ) → ℕ
unfolding le64
double_at m at = cond (leb (at + 8) (length m)) (le64 m at) 0

abbrev pub part_of : (start length : ℕ) → TextPart
part_of start n = record { start = start; length = n }

-- a part's bytes
abbrev pub bytes_of : (message : List ℕ) → (start length : ℕ) → List ℕ
bytes_of m start n = take n (drop start m)

-- the text of a string of so many bytes with the closing zero, no byte where it has too many or the message ends before
unfoldable pub text_of : (message : List ℕ) → (at count : ℕ) → TextPart
text_of m at count = cond (leb 1 count && (leb count 255 && leb (at + 4 + count) (length m))) (part_of (at + 4) (count - 1)) (part_of 0 0)

unfoldable pub text_at : (message : List ℕ) → (at : ℕ) → TextPart
unfolding word_at text_of
text_at m at = text_of m at (word_at m at)

-- a string's length and padding counted too
abbrev pub string_size : ℕ → ℕ
string_size n = 4 + padded (n + 1)

abbrev pub or_none : Option ℕ → ℕ
or_none none = 0
or_none (some i) = i

-- the interface that a part names, 0 for none
unfoldable pub name_at : (message : List ℕ) → TextPart → ℕ
unfolding lookup
name_at m t = or_none (lookup (bytes_of m t.start t.length))

-- ---- one value behind another

abbrev pub progress_of : (at value start length : ℕ) → ReadSoFar
progress_of at value start n = record { at = at; value = value; start = start; length = n }

unfoldable pub with_name : (message : List ℕ) → ReadSoFar → ReadSoFar
unfolding text_at name_at
with_name m p = progress_of (p.at + string_size (text_at m p.at).length) (name_at m (text_at m p.at)) p.start p.length

unfoldable pub with_text : (message : List ℕ) → ReadSoFar → (value : ℕ) → ReadSoFar
unfolding text_at
with_text m p value = progress_of (p.at + string_size (text_at m p.at).length) value (text_at m p.at).start (text_at m p.at).length

-- no string is no explanation
unfoldable pub with_explanation : (message : List ℕ) → ReadSoFar → ReadSoFar
unfolding word_at with_text
with_explanation m p = cond (eqb (word_at m p.at) 0) (progress_of (p.at + 4) 0 0 0) (with_text m p 128)

abbrev pub argument_read : EventArgument → (message : List ℕ) → ReadSoFar → ReadSoFar
argument_read None m p = progress_of p.at 0 p.start p.length
argument_read Uint32 m p = progress_of (p.at + 4) (word_at m p.at) p.start p.length
argument_read Uint64 m p = progress_of (p.at + 8) (double_at m p.at) p.start p.length
argument_read Interface m p = with_name m p
argument_read Reason m p = progress_of (p.at + 4) (word_at m p.at) p.start p.length
argument_read DeviceType m p = progress_of (p.at + 4) (word_at m p.at) p.start p.length
argument_read Text m p = with_text m p 0
argument_read Explanation m p = with_explanation m p

-- the next place is not far, and the text lies within the message
pub record Onward (message : List ℕ) (p q r : ReadSoFar) : Type 0 where
  pub is : r ≡ q
  pub near : r.at ≤ p.at + 260
  pub inside : r.start + r.length ≤ length message

-- ---- all values

abbrev pub begun : ReadSoFar
begun = progress_of 16 0 0 0

abbrev pub read_of : (first second third last : ReadSoFar) → Read
read_of a b c last = record { first = a.value; second = b.value; third = c.value; start = last.start; length = last.length }

-- in the message's order
unfoldable pub values_read : (message : List ℕ) → Shape → Read
unfolding word_at
values_read m s =
    let one = argument_read s.first m in
    let two = argument_read s.second m in
    let three = argument_read s.third m in
    cond s.swapped
    (read_of (one (two begun)) (two begun) (three (one (two begun))) (three (one (two begun))))
    (read_of (one begun) (two (one begun)) (three (two (one begun))) (three (two (one begun))))
