-- A handshake in two lent slices: what they mean, and what is promised of a call on them. Assumes nothing.
use Rattle.std.specs.Prelude.{ℕ, zero, suc, ◌+◌, ◌%◌, ◌≡◌, Bool, true, false, cond, ◌&&◌, List, eqb, leb, Float, length, get_or, take}
use Rattle.std.specs.Prelude.{Some, None, Ok, Err}
use Rattle.std.specs.Prelude as rust
use Rattle.std.proofs.Math.Option.{Option, none, some}
use Rattle.eiproto.specs.Enum.{context_type_number}
use Rattle.eiproto.specs.declared.eiproto_enum.ContextType.{ContextType}
use Rattle.wire.specs.Bits.{splice}
use Rattle.handshake.specs.Handshake as paper
use Rattle.handshake.specs.View.{view_of, is_sound, number, HandshakeOutcome, outcome_of, is_refusal, is_finished}
use Rattle.handshake.specs.declared.handshake.HandshakeError.{HandshakeError}
use Rattle.handshake.specs.declared.handshake.HandshakeAnswer.{HandshakeAnswer}
use Rattle.handshake_messages.specs.Reading.{handshake_reading, request_in}
use Rattle.parse.specs.declared.First.{First}
use Rattle.handshake_messages.specs.declared.Unhanded.{Unhanded}
use Rattle.model.specs.Session.{fresh}
use Rattle.control.specs.Table.{tab}
use Rattle.control.specs.Control.{control_length}
use Rattle.session.specs.View.{store, session, words_length, reals_length, texts_length, Whole}
use Rattle.session.specs.Slices.{Numbers, SharedNumbers}
use Rattle.lent_handshake.specs.declared.HandshakeReply.{HandshakeReply}
use Rattle.lent_handshake.specs.declared.MessageReply.{MessageReply}
use Rattle.lent_handshake.specs.declared.Client.{Client}

-- ---- what the slices mean: any numbers mean some handshake

-- the words: how long the name is, whether it was said, the context type, the serial, the next id; then a word for each of twelve interfaces
abbrev pub handshake_length : ℕ
handshake_length = 17

-- the bytes of the client's name, as far as the words say
abbrev pub name_length : ℕ
name_length = 254

-- 0 is no version, and any other number is one above the version
unfoldable pub version_at : ℕ → Option ℕ
version_at zero = none
version_at (suc n) = some (n % 4294967296)

-- the number of a context type; any other is none
unfoldable pub context_at : ℕ → Option ContextType
context_at n = cond (eqb n 1) (some ContextType.Receiver) (cond (eqb n 2) (some ContextType.Sender) none)

unfoldable pub name_at : (words name : List ℕ) → Option (List ℕ)
name_at w n = cond (eqb (get_or w 1 0) 1) (some (take (get_or w 0 0) n)) none

-- THE HANDSHAKE that the slices hold
unfoldable pub handshake_in : (words name : List ℕ) → paper.Handshake
unfolding version_at context_at name_at
handshake_in w n =
    record {
      name = name_at w n;
      context_type = context_at (get_or w 2 0);
      versions = tab 12 (λ j. version_at (get_or w (5 + j) 0));
      initial_serial = get_or w 3 0 % 4294967296;
      next_id = get_or w 4 0;
    }

-- "21 BAD_STATE: a stored count above its limit": a slice of another length is no handshake's, and the one count is the length of the name
unfoldable pub is_lent : (words name : List ℕ) → Bool
is_lent w n = eqb (length w) handshake_length && eqb (length n) name_length

unfoldable pub is_held : (words name : List ℕ) → Bool
unfolding is_lent
is_held w n = is_lent w n && leb (get_or w 0 0) name_length

-- ---- what is promised: w, n are the slices before, v, m those after

-- 21 leaves everything as it was
pub record Refused21 (w n v m out later : List ℕ) (r : HandshakeReply) : Type 0 where
  pub outcome : r.outcome ≡ Err HandshakeError.BadState
  pub count : r.count ≡ 0
  pub words : v ≡ w
  pub name : m ≡ n
  pub bytes : later ≡ out

-- the outcome as a number: 0 where it is no refusal
abbrev pub status_of : HandshakeOutcome → ℕ
status_of (Ok s) = 0
status_of (Err e) = number e

-- the slices hold the step's handshake, the answer is the step's, and so is every byte of `out`
pub record Holds (v m out later : List ℕ) (s : paper.Step) (r : HandshakeReply) : Type 0 where
  pub held : is_held v m ≡ true
  pub handshake : handshake_in v m ≡ s.handshake
  pub outcome : outcome_of r.outcome ≡ s.outcome
  pub count : r.count ≡ length s.bytes
  pub bytes : later ≡ splice out 0 s.bytes

-- `new`: "refused with 19, it still hands back a fresh handshake", whatever the slices held
pub record Started (w n v m out later : List ℕ) (serial : ℕ) (r : HandshakeReply) : Type 0 where
  pub damaged : is_lent w n ≡ false → Refused21 w n v m out later r
  pub started : is_lent w n ≡ true → Holds v m out later (paper.start serial (length out)) r

-- a message: "a refusal returns the session unchanged", and that is every word and byte
pub record Handled (w n v m out later : List ℕ) (message : paper.Message) (r : HandshakeReply) : Type 0 where
  pub damaged : is_held w n ≡ false → Refused21 w n v m out later r
  pub handled : is_held w n ≡ true → Holds v m out later (paper.handle_request (handshake_in w n) message (length out)) r
  pub kept : is_refusal r.outcome ≡ true → (v ≡ w) × (m ≡ n)

-- the control words d hold the session that a Finish settles, whatever the other slices hold
abbrev pub Begun : (d : List ℕ) → paper.Response → Type 0
Begun d p =
    (words : List ℕ) (reals : List Float) (texts : List ℕ) → length words ≡ words_length → length reals ≡ reals_length → length texts ≡ texts_length
    → Whole (store d words reals texts) × (session (store d words reals texts) ≡ fresh p.connection p.serial p.next_id p.versions)

-- a Finish: c are the control words before, d those after. Of another length they are refused with 21 too
pub record Finished (w n v m c d out later : List ℕ) (r : HandshakeReply) : Type 0 where
  pub damaged : (is_held w n && eqb (length c) control_length) ≡ false → Refused21 w n v m out later r
  pub handled : (is_held w n && eqb (length c) control_length) ≡ true → Holds v m out later (paper.finish (handshake_in w n) (length out)) r
  pub kept : is_refusal r.outcome ≡ true → (v ≡ w) × ((m ≡ n) × (d ≡ c))
  -- "as a successful Finish leaves it"
  pub begun : (p : paper.Response) → (is_held w n && eqb (length c) control_length) ≡ true
      → (paper.finish (handshake_in w n) (length out)).outcome ≡ paper.Result.finished p → Begun d p

-- ---- a message of the protocol

-- an answer that can be kept in the slices: what is stored has to be a handshake
abbrev pub Settleable : (w n c : List ℕ) → HandshakeAnswer → Type 0
Settleable w n c a =
    (is_lent w n ≡ true) × ((length c ≡ control_length) × (is_refusal a.outcome ≡ false → is_sound a.handshaker ≡ true))

-- what it leaves in them: "a refusal returns the session unchanged", and what is none is stored
pub record Settled (w n v m c d : List ℕ) (a : HandshakeAnswer) : Type 0 where
  pub refused : is_refusal a.outcome ≡ true → (v ≡ w) × (m ≡ n)
  pub stored : is_refusal a.outcome ≡ false → (is_held v m ≡ true) × (handshake_in v m ≡ view_of a.handshaker)
  pub control : is_finished a.outcome ≡ false → d ≡ c
  pub begun : (p : paper.Response) → outcome_of a.outcome ≡ paper.Result.finished p → Begun d p

-- every slice is as it was
pub record Untouched (w n v m c d out later : List ℕ) (s r : MessageReply) : Type 0 where
  pub reply : r ≡ s
  pub words : v ≡ w
  pub name : m ≡ n
  pub control : d ≡ c
  pub bytes : later ≡ out

-- where nothing is handed on
abbrev pub nothing_reply : Unhanded → MessageReply
nothing_reply why = record { told = Err why; reply = record { outcome = Ok None; count = 0 }; taken = 0 }

-- 21
abbrev pub damaged_reply : MessageReply
damaged_reply = record { told = Ok tt; reply = record { outcome = Err HandshakeError.BadState; count = 0 }; taken = 0 }

-- a request was handed on, whose message has so many bytes: as "the handshake call .. it stands for", and "a refused message takes nothing"
pub record HandedOn (w n v m c d out later : List ℕ) (request : paper.Message) (long : ℕ) (r : MessageReply) : Type 0 where
  pub told : r.told ≡ Ok tt
  pub taken : r.taken ≡ cond (is_refusal r.reply.outcome) 0 long
  pub handled : Holds v m out later (paper.handle_request (handshake_in w n) request (length out)) r.reply
  pub kept : is_refusal r.reply.outcome ≡ true → (v ≡ w) × (m ≡ n)
  -- a Finish that succeeds begins the session, and nothing else writes to the control words
  pub control : is_finished r.reply.outcome ≡ false → d ≡ c
  pub begun : (p : paper.Response) → (paper.handle_request (handshake_in w n) request (length out)).outcome ≡ paper.Result.finished p → Begun d p

abbrev pub Follows : rust.Result First Unhanded → (w n v m c d message out later : List ℕ) → MessageReply → Type 0
Follows (Ok x) w n v m c d message out later r = HandedOn w n v m c d out later (request_in x.arguments (take x.length message)) x.length r
Follows (Err why) w n v m c d message out later r = Untouched w n v m c d out later (nothing_reply why) r

-- "Order: 21" first, and then as the message is read
pub record Received (w n v m c d message out later : List ℕ) (r : MessageReply) : Type 0 where
  pub damaged : (is_held w n && eqb (length c) control_length) ≡ false → Untouched w n v m c d out later damaged_reply r
  pub received : (is_held w n && eqb (length c) control_length) ≡ true
      → Follows (handshake_reading (handshake_in w n) message) w n v m c d message out later r

-- who the client says it is: the length of its name, whether it was said, and the number of the context type, 0 where none was said
abbrev pub context_number : Option ContextType → ℕ
context_number none = 0
context_number (some c) = context_type_number c

abbrev pub client_in : (words : List ℕ) → Client
client_in w = record { length = get_or w 0 0; given = eqb (get_or w 1 0) 1; context = context_number (context_at (get_or w 2 0)) }

pub record Named (w n : List ℕ) (r : rust.Result Client HandshakeError) : Type 0 where
  pub damaged : is_held w n ≡ false → r ≡ Err HandshakeError.BadState
  pub known : is_held w n ≡ true → r ≡ Ok (client_in w)

-- ---- the same, of the slices that a call is lent

abbrev pub Starts : (words name out : Numbers) (serial : ℕ) → HandshakeReply → Type 0
Starts w n out serial r =
    Started w.entry.now n.entry.now w.exit.now n.exit.now out.entry.now out.exit.now serial r

abbrev pub Handles : (words name out : Numbers) → paper.Message → HandshakeReply → Type 0
Handles w n out message r =
    Handled w.entry.now n.entry.now w.exit.now n.exit.now out.entry.now out.exit.now message r

abbrev pub Finishes : (words name control out : Numbers) → HandshakeReply → Type 0
Finishes w n c out r =
    Finished w.entry.now n.entry.now w.exit.now n.exit.now c.entry.now c.exit.now out.entry.now out.exit.now r

abbrev pub Settles : (words name control : Numbers) → HandshakeAnswer → Type 0
Settles w n c a = Settled w.entry.now n.entry.now w.exit.now n.exit.now c.entry.now c.exit.now a

abbrev pub Receives : (words name control out : Numbers) (message : List ℕ) → MessageReply → Type 0
Receives w n c out message r =
    Received w.entry.now n.entry.now w.exit.now n.exit.now c.entry.now c.exit.now message out.entry.now out.exit.now r

abbrev pub Names : (words name : SharedNumbers) → rust.Result Client HandshakeError → Type 0
Names w n r = Named w.entry.now n.entry.now r
