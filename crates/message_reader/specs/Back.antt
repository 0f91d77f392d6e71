-- What a message says by the shape of its kind, and the record that says the same. Assumes nothing.
use Rattle.std.specs.Prelude.{ℕ, ◌+◌, true, List, ◌++◌, ◌≡◌, length}
use Rattle.wire.specs.Fields.{start}
use Rattle.event_messages.specs.Fields.{fields_of}
use Rattle.event_messages.specs.Message.{message}
use Rattle.event_messages.specs.Shape.{shape_of, values_of, fixed_size, sent_arguments, allowed_all}
use Rattle.event_messages.specs.declared.Shape.{Shape}
use Rattle.event_messages.specs.declared.Values.{Values}
use Rattle.message_reader.specs.declared.Read.{Read}
use Rattle.message_reader.specs.Read.{bytes_of}

-- the values that are read, and the text
unfoldable pub values_in : Read → Values
values_in r = values_of r.first r.second r.third

unfoldable pub text_in : (message : List ℕ) → Read → List ℕ
text_in m r = bytes_of m r.start r.length

-- the values and the text can be sent, and this is their message
pub record Said (m : List ℕ) (object opcode : ℕ) (s : Shape) (v : Values) (text : List ℕ) : Type 0 where
  pub allows : allowed_all s v text ≡ true
  pub told : m ≡ message object opcode (sent_arguments s v text)

-- the record of a kind with these values and this text
unfoldable pub record_of : (object kind : ℕ) → Values → (text : List ℕ) → List ℕ
unfolding shape_of
record_of object kind v text =
    let s = shape_of kind in
    start object (fields_of kind s v true) (fixed_size s + length text) ++ text
