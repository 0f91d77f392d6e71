-- What an exported function of the handshake tells: a reply that the call on the lent handshake promises, as numbers. Assumes nothing.
use Rattle.std.specs.Prelude.{ℕ, ◌≡◌, cond, [], Ok, Err}
use Rattle.std.specs.Prelude as rust
use Rattle.handshake.specs.Handshake as paper
use Rattle.handshake.specs.View.{number}
use Rattle.handshake.specs.declared.handshake.HandshakeError.{HandshakeError}
use Rattle.session.specs.Slices.{Numbers, SharedNumbers}
use Rattle.lent_handshake.specs.Lent.{status_of, Handled, Names}
use Rattle.lent_handshake.specs.declared.HandshakeReply.{HandshakeReply}
use Rattle.lent_handshake.specs.declared.Client.{Client}
use Rattle.bozterrun.specs.Reply.{Number}

-- the numbers are those of a reply that the call promises; Rest is what else is told of it
pub record Answers (Promised : HandshakeReply → Type 0) (status : ℕ) (Rest : HandshakeReply → Type 0) : Type 0 where
  pub reply : HandshakeReply
  pub promised : Promised reply
  pub status_is : status ≡ status_of reply.outcome
  pub rest : Rest reply

-- with how many bytes of events were written
abbrev pub Counted : (HandshakeReply → Type 0) → (status : ℕ) (count : Number) → Type 0
Counted P status count = Answers P status (λ a. count.exit.now ≡ a.count)

-- a message that writes no event is lent no `out`, which is an empty one
abbrev pub Says : (words name : Numbers) → paper.Message → (status : ℕ) → Type 0
Says w n message status =
    Answers (λ a. Handled w.entry.now n.entry.now w.exit.now n.exit.now [] [] message a) status (λ a. Unit {0})

-- who the client says it is; 0 where the slices hold no handshake
abbrev pub client_status : rust.Result Client HandshakeError → ℕ
client_status (Ok c) = 0
client_status (Err e) = number e

abbrev pub client_given : rust.Result Client HandshakeError → ℕ
client_given (Ok c) = cond c.given 1 0
client_given (Err e) = 0

abbrev pub client_length : rust.Result Client HandshakeError → ℕ
client_length (Ok c) = c.length
client_length (Err e) = 0

abbrev pub client_context : rust.Result Client HandshakeError → ℕ
client_context (Ok c) = c.context
client_context (Err e) = 0

pub record Introduced (words name : SharedNumbers) (given length context : Number) (status : ℕ) : Type 0 where
  pub client : rust.Result Client HandshakeError
  pub named : Names words name client
  pub status_is : status ≡ client_status client
  pub given_is : given.exit.now ≡ client_given client
  pub length_is : length.exit.now ≡ client_length client
  pub context_is : context.exit.now ≡ client_context client
