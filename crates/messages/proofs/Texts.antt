-- Bytes that are no call leave everything; a call keeps the texts by its own promise. Assumes nothing.
use Prim.Native.Nat.{ℕ}
use mathlib.Core.Path.{◌≡◌, refl, ap}
use mathlib.Core.Bool.{Bool, true, false}
use mathlib.Core.List.{List}
use Rattle.model.specs.Call.{Input, Call}
use Rattle.model.specs.Session.{view}
use Rattle.model_reads.specs.Message.{Reading}
use Rattle.session.specs.View.{Store, session, is_whole}
use Rattle.answers.specs.Kept.{NoText}
use Rattle.answers.proofs.Texts.{no_text}
use Rattle.messages.specs.Reading.{reading}
use Rattle.messages.specs.Received.{Received, ReceivedAs}
use Rattle.messages.specs.Texts.{MessageKeepsTexts}

module _ (s e : Store) (out later : List ℕ) (clock : ℕ) (r : Received) where
  read_same : (x : Reading (Call Input)) → ReceivedAs s e out later x clock r → ((call : Call Input) (n : ℕ) → x ≡ Reading.request call n → NoText call)
      → e.texts ≡ s.texts
  read_same Reading.wait h other = ap (λ (x : Store). x.texts) h.1.0
  read_same Reading.no_object h other = ap (λ (x : Store). x.texts) h.1.0
  read_same (Reading.malformed p) h other = ap (λ (x : Store). x.texts) h.1.0
  read_same (Reading.request call n) h other = no_text (other call n refl) h.handled.texts

pub message_keeps_texts : MessageKeepsTexts
message_keeps_texts s e out later bytes clock r h other = by (is_whole s) refl
  where
    by : (b : Bool) → is_whole s ≡ b → e.texts ≡ s.texts
    by false d = ap (λ (x : Store). x.texts) (h.damaged d).1.0
    by true w = read_same s e out later clock r (reading (view (session s)) bytes) (h.read w) other
