-- What an enacting function does: the edits of the model, in place. Assumes nothing.
use Rattle.std.specs.Prelude.{ℕ, ◌≡◌, List, Float}
use Rattle.control.specs.Sound.{Sound}
use Rattle.model.specs.Call.{Load}
use Rattle.model.specs.Edit.{Edit, enact_all}
use Rattle.session.specs.View.{Store, store, session}
use Rattle.session.specs.Slices.{Numbers}

-- s are the slices before, e those after
pub record Enacted (s e : Store) (edits : List Edit) (load : Load) : Type 0 where
  pub sound : Sound e.control
  pub view : session e ≡ enact_all edits load (session s)

-- edits that the control words alone are changed by, whatever the requests are
abbrev pub EnactedControl : (c e : List ℕ) → List Edit → Type 0
EnactedControl c e edits = (words : List ℕ) (reals : List Float) (texts : List ℕ) (load : Load) → Enacted (store c words reals texts) (store e words reals texts) edits load

-- edits by which the texts are not changed
abbrev pub EnactedRows : (c w : List ℕ) (r : List Float) (e v : List ℕ) (q : List Float) → List Edit → Type 0
EnactedRows c w r e v q edits = (texts : List ℕ) (load : Load) → Enacted (store c w r texts) (store e v q texts) edits load

-- ---- the same, said of the slices that a function is lent

abbrev pub EnactsControl : (control : Numbers) → List Edit → Type 0
EnactsControl c edits = EnactedControl c.entry.now c.exit.now edits
