-- The text store at a whole read. proofs/Texts.antt proves the statement. Assumes nothing.
use Rattle.std.specs.Prelude.{ℕ, ◌<◌, ◌≡◌, List, get_or}
use Rattle.model.specs.Call.{Input, Call}
use Rattle.model_reads.specs.Read.{Entry}
use Rattle.session.specs.View.{Store}
use Rattle.answers.specs.Kept.{NoText}
use Rattle.reads.specs.declared.ReadAnswer.{ReadAnswer}
use Rattle.reads.specs.Handed.{Handed}

-- none of the first n records is a Utf8
abbrev pub NoTextAmong : (n : ℕ) → List (Entry (Call Input)) → Type 0
NoTextAmong n es = (j : ℕ) (call : Call Input) → j < n → get_or es j Entry.bad_part ≡ Entry.request call → NoText call

-- A read of which no Utf8 is accepted leaves the text store bit for bit as it was
abbrev pub ReadKeepsTexts : Type 0
ReadKeepsTexts =
    (s e : Store) (out later : List ℕ) (entries : List (Entry (Call Input))) (clock : ℕ) (r : ReadAnswer) → Handed s e out later entries clock r
    → NoTextAmong r.accepted entries → e.texts ≡ s.texts
