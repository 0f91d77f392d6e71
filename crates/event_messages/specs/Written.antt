-- What turning a record into its message answers, or a message into its record: how many bytes were written, or why none were. Assumes nothing.
use Rattle.std.specs.Prelude.{ℕ, Result}
use Rattle.event_messages.specs.declared.MessageError.{MessageError}

abbrev pub Written : Type 0
Written = Result ℕ MessageError
