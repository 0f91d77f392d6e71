-- Which slots of the texts are in use. There is no mark for it: a slot is in use while a pending or queued request has its text there. Assumes nothing.
use Rattle.std.specs.Prelude.{ℕ, zero, suc, ◌+◌, ◌*◌, ◌≤◌, ◌<◌, ◌≡◌, true, false, cond, List, [], ◌∷◌, ltb, Float, length}
use Rattle.eiproto.specs.Bits.{bit, bits_of}
use Rattle.requests.specs.Row.{texts_limit, row_at}
use Rattle.wire.specs.Bits.{splice}
use Rattle.model.specs.Call.{Input, sight, Load}
use Rattle.model.specs.Edit.{Edit}
use Rattle.model.specs.Step.{counts}
use Rattle.control.specs.Control.{pending_limit, queue_limit, device_count, pending_at}
use Rattle.session.specs.View.{Store, store, row_count, words_length, reals_length, slot_length, session, Free, Whole}
use Rattle.session.specs.Slices.{Numbers}
use Rattle.session.specs.Loan.{Session, EnactsAll}
use Rattle.texts.specs.declared.LiveTexts.{LiveTexts}

-- how many of the first n slots are a text's
unfoldable pub texts_among : (n : ℕ) → (ℕ → ℕ) → ℕ
texts_among zero slots = 0
texts_among (suc n) slots = texts_among n slots + cond (ltb (slots n) texts_limit) 1 0

-- n rows from `row` on lie in the slices, and may be counted with what is told so far
pub record Scannable (words : List ℕ) (reals : List Float) (row n : ℕ) (live : LiveTexts) : Type 0 where
  pub words_long : length words ≡ words_length
  pub reals_long : length reals ≡ reals_length
  pub rows : row + n ≤ row_count
  pub count : live.count + n ≤ row_count

-- the pass over n requests more, whose texts lie in these slots: what was told before, and what is told after
pub record Counted (live later : LiveTexts) (n : ℕ) (slots : ℕ → ℕ) : Type 0 where
  pub count : later.count ≡ live.count + texts_among n slots
  pub most : later.count ≤ live.count + n
  pub marked : (j : ℕ) → j < n → slots j < texts_limit → bit (slots j) later.used ≡ true
  pub kept : (slot : ℕ) → bit slot live.used ≡ true → bit slot later.used ≡ true
  -- no more slots are marked than texts are counted
  pub few : length (bits_of later.used) + live.count ≤ length (bits_of live.used) + later.count

-- the first n of the queue stand in rows that follow each other, and all do unless these are the ring's last
pub record FirstRun (head queued n : ℕ) : Type 0 where
  pub some : n ≤ queued
  pub in_ring : head + n ≤ queue_limit
  pub all : n < queued → head + n ≡ queue_limit

-- what a pass over the live requests tells
pub record Live (c w : List ℕ) (r : List Float) (live : LiveTexts) : Type 0 where
  -- "32 texts stand, pending and queued together"
  pub count : (texts : List ℕ) → live.count ≡ (counts (session (store c w r texts))).texts
  pub free : (slot : ℕ) → slot < texts_limit → bit slot live.used ≡ false → Free c (row_at w r) slot
  -- no more slots are in use than there are texts
  pub few : length (bits_of live.used) ≤ live.count

-- the most bytes of a text: "above 254" is refused
abbrev pub text_length_limit : ℕ
text_length_limit = 254

-- a text that may be made pending in slot k of the devices, in a free slot of the texts
pub record Pendable (s : Store) (k slot : ℕ) (text : List ℕ) : Type 0 where
  pub whole : Whole s
  pub device : k < device_count s.control
  pub room : pending_at s.control k < pending_limit
  pub short : length text ≤ text_length_limit
  pub low : slot < texts_limit
  pub free : Free s.control (row_at s.words s.reals) slot

-- it is pending then, its bytes stand at the start of the slot, and no other byte of the texts was written
abbrev pub PendsText : (session : Session) (texts : Numbers) (k slot : ℕ) (text : List ℕ) → Type 0
PendsText s t k slot text =
    EnactsAll s t (Edit.pend k (sight (Input.Utf8 text)) ∷ []) (Load.Text text) × (t.exit.now ≡ splice t.entry.now (slot_length * slot) text)
