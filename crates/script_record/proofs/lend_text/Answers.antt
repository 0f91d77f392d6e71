-- The text of a call, and nothing of any other line. Assumes nothing.
use Prim.Native.Nat.{ℕ}
use native.Mathlib.Omega.{arith}
use mathlib.Core.List.{List, []}
use mathlib.Core.Path.{◌≡◌, refl, sym, subst}
use lib.Seq.{paste-zero}
use Rattle.script.specs.declared.verb.Verb.{Verb}
use Rattle.script.specs.declared.line.Args.{Args}
use Rattle.script.specs.declared.line.Line.{Line}
use Rattle.script.specs.Text.{Copied}
use Rattle.script_record.specs.Record.{call_text}
use Rattle.script_run.proofs.Doings.{read_as}
use Rattle.script_record.proofs.lend_text.Goals as goal

no_call : (line : List ℕ) (l : Line) → ((v : Verb) (w : Args) → l ≡ Line.Call v w → ⊥) → call_text line l ≡ []
unfolding call_text
no_call line Line.Blank n = refl
no_call line (Line.Setting v w) n = refl
no_call line (Line.Call v w) n = absurd (n v w refl)
no_call line Line.NoCall n = refl

nothing : {text : List ℕ} (l : List ℕ) → text ≡ [] → Copied text l l 0
nothing l e = subst (λ (t : List ℕ). Copied t l l 0) (sym e) (record { count = omega arith; bytes = paste-zero l 0 [] })

pub returns-in-Call : goal.returns-in-Call
unfolding call_text
returns-in-Call c =
    (_, (read_as c.in-Call.is c.parse.ensures, rw c.text_of.ensures at c.text_into.ensures))

pub returns-in_default : goal.returns-in_default
returns-in_default c =
    (_, (c.parse.ensures, nothing c.args.lent.now (no_call c.args.line.now c.parse.result c.in_default.not-Call)))
