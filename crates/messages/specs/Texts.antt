-- The text store at a client's bytes. proofs/Texts.antt proves the statement. Assumes nothing.
use Rattle.std.specs.Prelude.{ℕ, ◌≡◌, List}
use Rattle.model.specs.Call.{Input, Call}
use Rattle.model.specs.Session.{view}
use Rattle.model_reads.specs.Message.{Reading}
use Rattle.session.specs.View.{Store, session}
use Rattle.answers.specs.Kept.{NoText}
use Rattle.messages.specs.Reading.{reading}
use Rattle.messages.specs.Received.{Received, ReceivedFrom}

-- Bytes that stand for no Utf8 in the session leave the text store bit for bit as it was
abbrev pub MessageKeepsTexts : Type 0
MessageKeepsTexts =
    (s e : Store) (out later bytes : List ℕ) (clock : ℕ) (r : Received) → ReceivedFrom s e out later bytes clock r
    → ((call : Call Input) (n : ℕ) → reading (view (session s)) bytes ≡ Reading.request call n → NoText call) → e.texts ≡ s.texts
