-- The slices of a session that are lent together. Assumes nothing.
use Rattle.std.specs.Prelude.{ℕ, ◌≡◌, List}
use Rattle.std.specs.Borrow.{MutBor}
use denote.Triple.Both.{Both}
use Rattle.model.specs.Call.{Load}
use Rattle.model.specs.Edit.{Edit}
use Rattle.session.specs.View.{Store, store}
use Rattle.session.specs.Slices.{Numbers}
use Rattle.session.specs.Enact.{Enacted}
use Rattle.session.specs.declared.LentSession.{LentSession}

-- one that is lent to be changed
abbrev pub Session : Type 0
Session = Both (MutBor LentSession) (MutBor LentSession)

-- the slices, with these texts
abbrev pub store_of : LentSession → (texts : List ℕ) → Store
store_of s texts = store s.control.now s.words.now s.reals.now texts

-- the same slices as before
pub record SameLoan (old new : LentSession) : Type 0 where
  pub control : new.control.ghost_name ≡ old.control.ghost_name
  pub words : new.words.ghost_name ≡ old.words.ghost_name
  pub reals : new.reals.ghost_name ≡ old.reals.ghost_name

-- ---- what an enacting function does to them: the loan is the same, and the edits are made

-- edits by which the texts are not changed
abbrev pub EnactsRows : (session : Session) → List Edit → Type 0
EnactsRows s edits = (texts : List ℕ) (load : Load) → Enacted (store_of s.entry.now texts) (store_of s.exit.now texts) edits load

abbrev pub EnactsAll : (session : Session) (texts : Numbers) → List Edit → Load → Type 0
EnactsAll s t edits load = Enacted (store_of s.entry.now t.entry.now) (store_of s.exit.now t.exit.now) edits load
