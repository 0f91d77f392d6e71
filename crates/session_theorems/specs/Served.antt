-- A connection as the code serves it, from its handshake's first call on. proofs/Serving.antt proves the statements. Assumes nothing.
use Rattle.std.specs.Prelude.{ℕ, ◌+◌, ◌≡◌, true, List, [], ◌∷◌, ◌++◌, map, length, Result}
use Rattle.handshake.specs.Handshake.{Step, start}
use Rattle.handshake.specs.View.{is_finished, response_in, versions_of, Meets}
use Rattle.handshake.specs.Run.{seen_in}
use Rattle.handshake.specs.declared.handshake.HandshakeAnswer.{HandshakeAnswer}
use Rattle.handshake_messages.specs.Run as handshake
use Rattle.handshake_messages.specs.Run.{TurnSeen, HandshakeTurn, HandshakeTurns, answer_of, given_of}
use Rattle.model_reads.specs.Acts.{MatchedActs}
use Rattle.control.specs.Control.{control_length}
use Rattle.session.specs.View.{Store, session, words_length, reals_length, texts_length}
use Rattle.answers.specs.declared.Answer.{Answer}
use Rattle.answers.specs.declared.Error.{Error}
use Rattle.converter.specs.Next.{Begins}
use Rattle.messages.specs.Reading.{reading}
use Rattle.messages.specs.Same.{SameMessage}
use Rattle.session_theorems.specs.Made.{Made, act_of, MadeCalls, seen_of, FreshMade}

-- what was called, and what it answered
pub record Served : Type 0 where
  -- `EisHandshaker::new`, its buffer before and after it
  pub serial : ℕ
  pub out : List ℕ
  pub later : List ℕ
  pub started : HandshakeAnswer
  -- the client's requests and messages, of which the last is the Finish that succeeds
  pub turns : List HandshakeTurn
  pub finish : HandshakeTurn
  -- `converter::request::new`: the control words before it, and the session's slices after it
  pub control : List ℕ
  pub slices : Store
  pub begun : Result Answer Error
  -- the session's calls, whole reads and messages among them
  pub calls : List Made

abbrev pub shaken : Served → List HandshakeTurn
shaken x = x.turns ++ (x.finish ∷ [])

abbrev pub finish_of : Served → HandshakeAnswer
finish_of x = answer_of x.finish

-- each call as its contract has it, on slices of the lengths that the module names
pub record Serves (x : Served) : Type 0 where
  pub starts : Meets x.out x.later (start x.serial (length x.out)) x.started
  pub shakes : HandshakeTurns x.started.handshaker (shaken x)
  pub finished : is_finished (finish_of x).outcome ≡ true
  pub begins : Begins x.control x.slices.control (response_in (finish_of x).outcome) x.begun
  pub control_long : length x.control ≡ control_length
  pub words_long : length x.slices.words ≡ words_length
  pub reals_long : length x.slices.reals ≡ reals_length
  pub texts_long : length x.slices.texts ≡ texts_length
  pub calls : MadeCalls x.slices x.calls

-- FROM FINISH TO THE FRESH SESSION. The slices hold a whole session: the connection's id, the serial and the versions are what the Finish settled, and the ids
-- go on after the connection's
abbrev pub FromFinish : Type 0
FromFinish =
    (x : Served) → Serves x →
    let settled = response_in (finish_of x).outcome in
    FreshMade settled.connection settled.serial (settled.connection + 1) (versions_of settled.interfaces) x.slices x.calls

-- "Two handshakes that get equal calls": equal requests and equal bytes, in buffers of equal lengths
pub record SameHandshake (x y : Served) : Type 0 where
  pub serial : x.serial ≡ y.serial
  pub room : length x.out ≡ length y.out
  pub calls : map given_of (shaken x) ≡ map given_of (shaken y)

-- what is seen of a handshake: states, outcomes and event bytes; of messages besides what became of them and how many bytes were taken
abbrev pub handshake_seen : Served → Step × List TurnSeen
handshake_seen x = (seen_in x.started x.later, map handshake.seen_of (shaken x))

-- "give equal outcomes, event bytes and sessions."
abbrev pub EqualSessions : Type 0
EqualSessions =
    (x y : Served) → Serves x → Serves y → SameHandshake x y → (handshake_seen x ≡ handshake_seen y) × (session x.slices ≡ session y.slices)

-- DEMAND 3, FIRST HALF, FROM THE HANDSHAKE'S FIRST CALL ON
abbrev pub EqualServed : Type 0
EqualServed =
    (x y : Served) → Serves x → Serves y → SameHandshake x y → MatchedActs reading SameMessage (session x.slices) (map act_of x.calls) (map act_of y.calls)
    → (handshake_seen x ≡ handshake_seen y) × (map seen_of x.calls ≡ map seen_of y.calls)
