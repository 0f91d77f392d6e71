-- Laws of writing to a lent line: one run of bytes behind another is one run. Assumes nothing.
use Prim.Native.Nat.{ℕ}
use mathlib.Core.Path.{◌≡◌, refl, ◌∙◌}
use mathlib.Core.List.{List, [], ◌++◌}
use Rattle.script_pattern.specs.Put.{Writes}
use Rattle.script_pattern.specs.declared.line.Line.{Line}
use Rattle.script_pattern.proofs.Puts.{put_then, put_none}

-- bytes, and more bytes behind them
pub written_then : {line mid later : Line} {xs ys : List ℕ} → Writes line mid xs → Writes mid later ys → Writes line later (xs ++ ys)
written_then a b = record { put = put_then a.put b.put; same = b.same ∙ a.same }

pub written_none : (line : Line) → Writes line line []
written_none line = record { put = put_none line.lent.now line.at; same = refl }

pub written_is : {line later : Line} {xs ys : List ℕ} → Writes line later xs → xs ≡ ys → Writes line later ys
written_is w e = rw e at w

-- ---- in a loop: whatever writes the rest from here on writes the whole

abbrev pub Rest : (line : Line) (whole : List ℕ) (now : Line) (rest : List ℕ) → Type 0
Rest line whole now rest = (later : Line) → Writes now later rest → Writes line later whole

pub rest_start : (line : Line) (whole : List ℕ) → Rest line whole line whole
rest_start line whole later w = w

pub rest_on : {line now after : Line} {whole xs ys rest : List ℕ} → Rest line whole now rest → rest ≡ xs ++ ys → Writes now after xs → Rest line whole after ys
rest_on k e w later v = k later (rw e (written_then w v))

pub rest_end : {line now : Line} {whole rest : List ℕ} → Rest line whole now rest → rest ≡ [] → Writes line now whole
rest_end {now = now} k e = k now (rw e (written_none now))
