-- The texts in their slots: one that is put there is read there, and leaves the others. Assumes nothing.
use Prim.Native.Nat.{ℕ, ◌+◌, ◌*◌, ◌%◌, ◌≤◌, ◌<◌}
use mathlib.Core.Path.{◌≡◌, refl, sym, ap, ◌∙◌}
use mathlib.Core.Bool.{true}
use mathlib.Core.List.{List, [], ◌∷◌, map}
use mathlib.Core.Logic.{dite}
use native.Mathlib.Decide.{dec_lt}
use native.Mathlib.Nat.{mod-eq_of_lt}
use native.Mathlib.Omega.{arith}
use borrow.Author.Tests.{le-leb, leb-true}
use lib.Dec.{leb}
use lib.Ieee.{Float}
use lib.ListN.{length, get_or, take, drop, set, get_or-map, get_or-eq_default}
use Rattle.eiproto.specs.Bits.{every}
use Rattle.eiproto.proofs.Bits.{every_at}
use Rattle.requests.specs.declared.cell.Cell.{Cell}
use Rattle.requests.specs.declared.request.EisRequest.TheVariants.{Disconnect, TextUtf8}
use Rattle.requests.specs.Request.{text_length}
use Rattle.requests.specs.Row.{texts_limit, Row, meanings, request_of, entry, row_of, cell_at, row_at}
use Rattle.model.specs.Call.{Kind, Sight, Input, sight, Load}
use Rattle.model.specs.Edit.{Edit, item, enact_all}
use Rattle.control.specs.Control.{device_count, queue_head, queue_length, core_at}
use Rattle.control.proofs.Tables.{case_eq}
use Rattle.session.specs.View.{store, slot_length, texts_length, pending_row, queue_row, request_in, item_in, text_of, request_at, item_at, session, Free}
use Rattle.session.specs.Enact.{Enacted}
use Rattle.session.proofs.Views.{device_ext, queue_ext, session_ext}
use Rattle.texts.specs.Texts.{text_length_limit}
use Rattle.wire.specs.Bits.{splice}
use Rattle.wire.proofs.Splices.{splice-none, splice_front, splice_here, splice-before, splice-behind}

-- ---- the texts of the rows

lengths_small : (c : Cell) → every (λ n. leb n 255) (map text_length (meanings c)) ≡ true
unfolding every
lengths_small c = rw (le-leb (c.extra % 256) 255 (omega arith))

-- any length that a row can hold lies within its slot
row-length : (w : List ℕ) (r : List Float) (i : ℕ) → text_length (row_at w r i).request ≤ 255
unfolding row_at row_of entry request_of
row-length w r i =
    let c = cell_at w r i in
    let lengths = map text_length (meanings c) in
    let e : get_or lengths c.kind 0 ≡ text_length (get_or (meanings c) c.kind Disconnect) = get_or-map text_length (meanings c) c.kind Disconnect in
    dite (dec_lt c.kind (length lengths))
    (λ h. omega (arith, e, leb-true (get_or lengths c.kind 0) 255 (every_at (λ n. leb n 255) lengths c.kind 0 (lengths_small c) h)))
    (λ h. omega (arith, e, get_or-eq_default lengths 0 {n = c.kind} (omega arith)))

-- texts that tell the same of every request in use hold the same session
module _ (c w : List ℕ) (r : List Float) (texts later : List ℕ) where
  abbrev Same : ℕ → Type 0
  Same i = text_of later (row_at w r i) ≡ text_of texts (row_at w r i)

  request_same : (i : ℕ) → Same i → request_at later (row_at w r i) ≡ request_at texts (row_at w r i)
  unfolding request_at
  request_same i same = ap (request_in (row_at w r i).request) same

  item_same : (i : ℕ) → Same i → item_at later (row_at w r i) ≡ item_at texts (row_at w r i)
  unfolding item_at
  item_same i same = ap item_in (request_same i same)

  session_same : ((k j : ℕ) → k < device_count c → j < (core_at c k).pending → Same (pending_row k j)) → ((j : ℕ) → j < queue_length c → Same (queue_row (queue_head c) j))
      → session (store c w r later) ≡ session (store c w r texts)
  unfolding session
  session_same pending queued =
      let rows = row_at w r in
      session_ext c c rows rows texts later refl refl
      (λ k l. device_ext c c rows rows texts later k k refl (λ j m. item_same (pending_row k j) (pending k j l m)))
      (queue_ext c c rows rows texts later refl refl (λ j m. request_same (queue_row (queue_head c) j) (queued j m)))

-- the last byte of a slot is no text's
pub last_byte_unseen : (c w : List ℕ) (r : List Float) (texts : List ℕ) (slot byte : ℕ) → slot < texts_limit → length texts ≡ texts_length
    → session (store c w r (set texts (slot_length * slot + 255) byte)) ≡ session (store c w r texts)
unfolding text_of
last_byte_unseen c w r texts slot byte small long =
    rw put (session_same c w r texts (splice texts (slot_length * slot + 255) (byte ∷ [])) (λ k j l m. unseen (pending_row k j)) (λ j m. unseen (queue_row (queue_head c) j)))
  where
    put : set texts (slot_length * slot + 255) byte ≡ splice texts (slot_length * slot + 255) (byte ∷ [])
    put =
        let at = slot_length * slot + 255 in
        ap (λ (l : List ℕ). set l at byte) (sym (splice-none texts (at + 1))) ∙ splice_front texts at (at + 1) byte [] refl (omega arith)

    unseen : (i : ℕ) → text_of (splice texts (slot_length * slot + 255) (byte ∷ [])) (row_at w r i) ≡ text_of texts (row_at w r i)
    unseen i =
        let at = slot_length * slot + 255 in
        let row = row_at w r i in
        let short = row-length w r i in
        dite (dec_lt slot row.slot) (λ l. splice-behind texts (byte ∷ []) at (omega arith) (slot_length * row.slot) (text_length row.request) (omega arith))
        (λ n. splice-before texts (byte ∷ []) at (omega arith) (slot_length * row.slot) (text_length row.request) (omega arith))

module _ (texts text : List ℕ) (slot : ℕ) (small : slot < texts_limit) (short : length text ≤ text_length_limit) (long : length texts ≡ texts_length) where
  abbrev later : List ℕ
  later = splice texts (slot_length * slot) text

  -- a row whose text lies in another slot
  row_kept : (row : Row) → text_length row.request ≤ 255 → (row.slot ≡ slot → ⊥) → text_of later row ≡ text_of texts row
  unfolding text_of
  row_kept row h ne =
      dite (dec_lt row.slot slot) (λ l. splice-before texts text (slot_length * slot) (omega arith) (slot_length * row.slot) (text_length row.request) (omega arith))
      (λ n.
      splice-behind texts text (slot_length * slot) (omega arith) (slot_length * row.slot) (text_length row.request)
      (case_eq row.slot slot (λ e. absurd (ne e)) (λ x. omega arith)))

  session-kept : (c w : List ℕ) (r : List Float) → Free c (row_at w r) slot → session (store c w r later) ≡ session (store c w r texts)
  session-kept c w r free =
      session_same c w r texts later (λ k j l m. row_kept (row_at w r (pending_row k j)) (row-length w r (pending_row k j)) (free.pending k j l m))
      (λ j m. row_kept (row_at w r (queue_row (queue_head c) j)) (row-length w r (queue_row (queue_head c) j)) (free.queued j m))

  -- the request that has the text
  text-item : item (sight (Input.Utf8 text)) (Load.Text text) ≡ item_at later (entry (TextUtf8 0 0 (length text)) slot)
  unfolding item sight item_at item_in request_at request_in text_of entry
  text-item =
      let p : text ≡ take (length text) (drop (slot_length * (slot % texts_limit)) later) =
      sym (ap (λ (s : ℕ). take (length text) (drop (slot_length * s) later)) (mod-eq_of_lt small) ∙ splice_here texts text (slot_length * slot) (omega arith)) in
      λ i. record { kind = Kind.TextUtf8; touch = 0; size = length text; load = Load.Text (p i) }

  -- what `pend` of the queue does with it, after the text was put in its slot
  pub text-pended : {c w e v : List ℕ} {r q : List Float} {row : Row} (k : ℕ) → Free c (row_at w r) slot → row ≡ entry (TextUtf8 0 0 (length text)) slot
      → ((ts : List ℕ) (sight : Sight) (load : Load) → item sight load ≡ item_at ts row → Enacted (store c w r ts) (store e v q ts) (Edit.pend k sight ∷ []) load)
      → Enacted (store c w r texts) (store e v q later) (Edit.pend k (sight (Input.Utf8 text)) ∷ []) (Load.Text text)
  text-pended {c} {w} {r = r} k free is told =
      let done = told later (sight (Input.Utf8 text)) (Load.Text text) (text-item ∙ ap (item_at later) (sym is)) in
      record { sound = done.sound; view = done.view ∙ ap (enact_all (Edit.pend k (sight (Input.Utf8 text)) ∷ []) (Load.Text text)) (session-kept c w r free) }
