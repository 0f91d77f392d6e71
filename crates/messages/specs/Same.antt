-- Two byte strings that differ in payload alone: "Sessions that differ only in payload have messages of equal length, so their trails stay equal as long as each
-- press state is a defined one in both." Assumes nothing.
use Rattle.std.specs.Prelude.{ℕ, ◌≤◌, ◌<◌, ◌≡◌, List, length, get_or, take}
use Rattle.std.proofs.Math.Option.{some}
use Rattle.parse.specs.Parse.{le32, le64}
use Rattle.parse.specs.Same.{Same}
use Rattle.model.specs.Session.{View}
use Rattle.model.specs.Live.{Object, live}
use Rattle.model_reads.specs.Acts.{MatchedReading}
use Rattle.messages.specs.Reading.{reading}

-- In a session: the slices are equally long; of a header that is there, the object and the length are equal; and of a message that is whole, on an object that is
-- alive, the bytes that are no payload (`Same` of parse/specs: which they are, and what is presumed of press states and texts). Of what stands behind the first
-- message nothing is presumed
pub record SameMessage (v : View) (m m' : List ℕ) : Type 0 where
  pub long : length m ≡ length m'
  pub header : 16 ≤ length m → (i : ℕ) → i < 12 → get_or m i 0 ≡ get_or m' i 0
  pub rest : 16 ≤ length m → (o : Object) → live v (le64 m 0) ≡ some o → le32 m 8 ≤ length m → Same o.interface (take (le32 m 8) m) (take (le32 m 8) m')

-- they are read alike
abbrev pub SameMatched : Type 0
SameMatched = (v : View) (m m' : List ℕ) → SameMessage v m m' → MatchedReading (reading v m) (reading v m')
