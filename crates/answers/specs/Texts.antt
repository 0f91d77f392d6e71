-- WHAT BECOMES OF THE TEXT STORE at a call. Assumes nothing.
use Rattle.std.specs.Prelude.{ℕ, ◌+◌, ◌*◌, ◌≤◌, ◌<◌, ◌≡◌, List, length}
use Rattle.wire.specs.Bits.{splice}
use Rattle.requests.specs.Row.{texts_limit, row_at}
use Rattle.model.specs.Call.{Input, Call}
use Rattle.model.specs.Step.{counts}
use Rattle.session.specs.View.{Store, slot_length, session, Free}

-- A text was stored: it begins a slot that was free, one text more stands, and every other byte is as it was. s are the slices before the call, e those after it
pub record Stored (s e : Store) (text : List ℕ) : Type 0 where
  pub slot : ℕ
  pub low : slot < texts_limit
  pub free : Free s.control (row_at s.words s.reals) slot
  pub short : length text ≤ slot_length
  pub bytes : e.texts ≡ splice s.texts (slot_length * slot) text
  pub more : (counts (session e)).texts ≡ (counts (session s)).texts + 1

-- "the text should remain in its slot while only the reference moves to the queue: closing a frame leaves the text store bit for bit as it was". So does every
-- call, unless it is a Utf8 that is taken, which may store its own text and write no other byte
pub data TextsAfter (s e : Store) (call : Call Input) : Type 0 where
  kept : e.texts ≡ s.texts → TextsAfter s e call
  stored : (interface version : ℕ) (text : List ℕ) → call ≡ Call.timed interface version (Input.Utf8 text) → Stored s e text → TextsAfter s e call
