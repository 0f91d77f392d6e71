-- What writing into a lent line does. Assumes nothing.
use Rattle.std.specs.Prelude.{ℕ, ◌+◌, min, max, List, ◌≡◌, length}
use Rattle.std.specs.Borrow.{MutBor}
use denote.Triple.Both.{Both}
use Rattle.std.proofs.lemmas.List.Edits.{sets}
use Rattle.script_pattern.specs.declared.line.Line.{Line}

-- as many of the bytes as have room stand in the line from a place on, every other byte is as it was, and r is the place behind them
pub record Put (line later : List ℕ) (at r : ℕ) (bytes : List ℕ) : Type 0 where
  -- `sets` stores them one behind the other; past the end of a list a store changes nothing
  pub stored : later ≡ sets line at bytes
  pub next : r ≡ max at (min (at + length bytes) (length line))

-- the same of a line that a function is lent, which has its bytes at entry and at exit
abbrev pub Puts : Both (MutBor (List ℕ)) (MutBor (List ℕ)) → (at r : ℕ) → (bytes : List ℕ) → Type 0
Puts line at r bytes = Put line.entry.now line.exit.now at r bytes

-- the same of a line that is written from its start on: the bytes stand behind those that are there, in the bytes that it was lent
pub record Writes (line later : Line) (bytes : List ℕ) : Type 0 where
  pub put : Put line.lent.now later.lent.now line.at later.at bytes
  pub same : later.lent.ghost_name ≡ line.lent.ghost_name

-- no byte stands in the lent line yet
pub record Begins (lent : MutBor (List ℕ)) (line : Line) : Type 0 where
  pub start : line.at ≡ 0
  pub bytes : line.lent.now ≡ lent.now
  pub same : line.lent.ghost_name ≡ lent.ghost_name
