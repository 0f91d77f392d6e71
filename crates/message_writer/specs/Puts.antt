-- What writing a message's parts does to a buffer. Assumes nothing.
use Rattle.std.specs.Prelude.{ℕ, ◌+◌, ◌≤◌, true, List, ◌≡◌, length}
use Rattle.std.specs.Borrow.{MutBor}
use Rattle.wire.specs.Put.{Wrote}
use Rattle.event_messages.specs.Shape.{sent, allowed}
use Rattle.event_messages.specs.declared.EventArgument.{EventArgument}
use Rattle.message_writer.specs.declared.Sent.{Sent}

-- these bytes stand at the place, every other byte is as it was, and the answer is the place behind them
abbrev pub Puts : (out later : List ℕ) → (at : ℕ) → (bytes : List ℕ) → (r : ℕ) → Type 0
Puts out later at bytes r = Wrote out later at (length bytes) bytes r

-- the same of a message that is written from its start on, in the buffer that it was lent, which is as long as it was
pub record Sends (before after : Sent) (bytes : List ℕ) : Type 0 where
  pub puts : Puts before.out.now after.out.now before.at bytes after.at
  pub long : length after.out.now ≡ length before.out.now
  pub same : after.out.ghost_name ≡ before.out.ghost_name

-- nothing of the message stands in the buffer yet
pub record Begins (out : MutBor (List ℕ)) (message : Sent) : Type 0 where
  pub start : message.at ≡ 0
  pub buffer : message.out.now ≡ out.now
  pub same : message.out.ghost_name ≡ out.ghost_name

-- there is room for so many bytes more
abbrev pub HasRoom : Sent → (size : ℕ) → Type 0
HasRoom message size = message.at + size ≤ length message.out.now

-- the value can be sent, and there is room for it
pub record CanSend (message : Sent) (argument : EventArgument) (x : ℕ) (text : List ℕ) : Type 0 where
  pub size : length text ≤ 254
  pub allows : allowed argument x (length text) ≡ true
  pub room : message.at + length (sent argument x text) ≤ length message.out.now
