-- Where a line ends in a buffer. Assumes nothing.
use Rattle.std.specs.Prelude.{ℕ, ◌+◌, ◌-◌, cond, ◌&&◌, List, ltb, eqb, length, get_or, take, drop, Option, Some, None}
use Rattle.script.specs.declared.line.LineEnd.{LineEnd}
use Rattle.script.specs.Words.{before}

-- what is filled from a place on
abbrev pub filled : List ℕ → (from to : ℕ) → List ℕ
filled buf from to = drop from (take to buf)

-- how many of a line's bytes are the line's, where a newline stands behind them: a carriage return before the newline belongs to the end
unfoldable pub line_length : List ℕ → ℕ
line_length l = cond (ltb 0 (length l) && eqb (get_or l (length l - 1) 0) 0x0d) (length l - 1) (length l)

-- a line ends with a newline; without one it goes on
unfoldable pub line_end : List ℕ → (from to : ℕ) → Option LineEnd
unfolding before line_length
line_end buf from to =
    let l = before 0x0a (filled buf from to) in
    cond (ltb (length l) (length (filled buf from to))) (Some (record { end = from + line_length l; next = from + length l + 1 })) None
