-- The session that the turns of the benchmark begin with: a handshake, a seat, devices, each call as its contract has it. Assumes nothing.
use Rattle.std.specs.Prelude.{ℕ, ◌+◌, ◌≡◌, true, false, List, [], ◌∷◌, length, Float, Result}
use Rattle.std.proofs.Math.Option.{none}
use Rattle.eiproto.specs.Interface.{ascii}
use Rattle.eiproto.specs.declared.eiproto_enum.DeviceType.{DeviceType}
use Rattle.handshake.specs.Handshake as paper
use Rattle.handshake.specs.View.{is_finished, response_in, Meets, Handled}
use Rattle.handshake.specs.declared.handshake.EisHandshaker.{EisHandshaker}
use Rattle.handshake.specs.declared.handshake.HandshakeAnswer.{HandshakeAnswer}
use Rattle.model.specs.Call.{Plain, Call}
use Rattle.session.specs.View.{store, Lending}
use Rattle.answers.specs.Meets.{Answered}
use Rattle.answers.specs.declared.Answer.{Answer}
use Rattle.answers.specs.declared.Error.{Error}
use Rattle.converter.specs.Next.{Begins}

-- the client knows an interface in version 9; the handshake after that
pub data Knows (h : EisHandshaker) (name : List ℕ) : EisHandshaker → Type 0 where
  knows : {out later : List ℕ} {answer : HandshakeAnswer} → Handled h (paper.Message.InterfaceVersion name 9) out later answer → Knows h name answer.handshaker

-- one after another
pub data KnowsAll (h : EisHandshaker) : List (List ℕ) → EisHandshaker → Type 0 where
  nothing : KnowsAll h [] h
  more : {m e : EisHandshaker} {name : List ℕ} {names : List (List ℕ)} → KnowsAll h names m → Knows m name e → KnowsAll h (name ∷ names) e

-- the interfaces that a session needs, and those of the devices; the last one first
unfoldable pub known : List (List ℕ)
unfolding ascii
known = ascii "ei_text" ∷ ascii "ei_touchscreen" ∷ ascii "ei_keyboard" ∷ ascii "ei_pingpong" ∷ ascii "ei_callback" ∷ ascii "ei_connection" ∷ []

-- the session that a Finish leaves in the control words
pub record Leaves (c d : List ℕ) (a : HandshakeAnswer) : Type 0 where
  pub answer : Result Answer Error
  pub begins : Begins c d (response_in a.outcome) answer

-- a handshake from serial 7 on, with these interfaces, and the session that its Finish leaves in the control words
pub data Shaken : (c d : List ℕ) → Type 0 where
  shaken : {out later last after c d : List ℕ} {started finished : HandshakeAnswer} {ready : EisHandshaker}
      → Meets out later (paper.start 7 (length out)) started → KnowsAll started.handshaker known ready
      → Handled ready paper.Message.Finish last after finished → Leaves c d finished → Shaken c d

-- a call of the station on the control words, whatever the other slices are
abbrev pub Promised : (c d out later : List ℕ) → Plain → Result Answer Error → Type 0
Promised c d out later call answer =
    (clock : ℕ) (w : List ℕ) (r : List Float) (t : List ℕ) → Answered Lending.control (store c w r t) (store d w r t) out later (Call.plain call) clock answer

abbrev pub seat : ℕ
seat = 0xff00_0000_0000_0001

-- so many devices more on the seat
pub data Added (capabilities : ℕ) : (devices : ℕ) → (c d : List ℕ) → Type 0 where
  nothing : {c : List ℕ} → Added capabilities 0 c c
  added : {devices : ℕ} {c d e out later : List ℕ} {answer : Result Answer Error} → Added capabilities devices c d
      → Promised d e out later (Plain.add_device seat none DeviceType.Virtual capabilities) answer → Added capabilities (devices + 1) c e

-- the handshake, the seat, the devices
pub data Begun (devices capabilities : ℕ) : (c d : List ℕ) → Type 0 where
  begun : {c fresh seated d out later : List ℕ} {answer : Result Answer Error} → Shaken c fresh → Promised fresh seated out later (Plain.add_seat none capabilities) answer
      → Added capabilities devices seated d → Begun devices capabilities c d
