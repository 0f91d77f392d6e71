-- A read as its contract has it is the model's. proofs/Agreed.antt proves the statements. Assumes nothing.
use Rattle.std.specs.Prelude.{ℕ, ◌≡◌, true, List, map, length, Option, Some, None}
use Rattle.wire.specs.Bits.{splice}
use Rattle.model.specs.Call.{Input, Load, Call}
use Rattle.model.specs.Plan.{Result, records}
use Rattle.model_reads.specs.Read.{Entry, loaded, map_entry, Read, handed_over}
use Rattle.session.specs.View.{Store, session, is_whole, Whole}
use Rattle.answers.specs.Answer.{error_of}
use Rattle.answers.specs.declared.Error.{Error}
use Rattle.reads.specs.declared.ReadAnswer.{ReadAnswer}
use Rattle.reads.specs.Handed.{Handed}

abbrev pub first_of : Option Error → Result
first_of None = Result.accepted
first_of (Some e) = error_of e

-- the answer is that of the model's read: session, number accepted, first refusal, count and every byte of `out`
pub record Agrees (s e : Store) (out later : List ℕ) (to : Read Load) (r : ReadAnswer) : Type 0 where
  pub whole : Whole e
  pub view : session e ≡ to.session
  pub accepted : r.accepted ≡ to.accepted
  pub outcome : first_of r.refusal ≡ to.outcome
  pub count : r.count ≡ length (records to.events)
  pub bytes : later ≡ splice out 0 (records to.events)

abbrev pub model_read : List (Entry (Call Input)) → (clock room : ℕ) → Store → Read Load
model_read entries clock room s = handed_over (map (map_entry loaded) entries) clock room (session s)

-- THE READ IS THE MODEL'S
abbrev pub HandedIsRead : Type 0
HandedIsRead =
    (s e : Store) (out later : List ℕ) (entries : List (Entry (Call Input))) (clock : ℕ) (r : ReadAnswer) → is_whole s ≡ true
    → Handed s e out later entries clock r → Agrees s e out later (model_read entries clock (length out) s) r

-- "21 once": no record of a session that was not damaged when the read began is refused with it
abbrev pub ReadNever21 : Type 0
ReadNever21 =
    (s e : Store) (out later : List ℕ) (entries : List (Entry (Call Input))) (clock : ℕ) (r : ReadAnswer) → is_whole s ≡ true
    → Handed s e out later entries clock r → r.refusal ≡ Some Error.BadState → ⊥
