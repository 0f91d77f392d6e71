-- What a row means once it is framed, and that an untimed request has no text. Assumes nothing.
use Prim.Native.Nat.{ℕ, ◌*◌}
use mathlib.Core.Path.{◌≡◌, refl, ap, ◌∙◌}
use mathlib.Core.List.{List, []}
use lib.ListN.{take, drop}
use Rattle.requests.specs.declared.request.EisRequest.{EisRequest}
use Rattle.requests.specs.declared.request.EisRequest.TheVariants.{Frame}
use Rattle.requests.specs.Request.{framed_request}
use Rattle.requests.specs.Row.{no_slot, Row, entry, framed_row}
use Rattle.model.specs.Session.{Untimed, Queued}
use Rattle.session.specs.View.{slot_length, request_in, text_of, request_at, item_at}
use Rattle.session.proofs.Shapes.{shape}

-- a row of the frame is the request that was pending, on the frame's device at its time
pub framed_request_lem : (texts : List ℕ) (d t : ℕ) (w : Row) → request_at texts (framed_row d t w) ≡ Queued.timed d t (item_at texts w)
unfolding request_at item_at text_of framed_row
framed_request_lem texts d t w =
    let s = shape w.request in
    ap (λ (n : ℕ). request_in (framed_request d t w.request) (take n (drop (slot_length * w.slot) texts))) (s.length_kept d t) ∙ s.framed d t (text_of texts w)

pub untimed-request : (texts : List ℕ) (r : EisRequest) (slot : ℕ) (u : Untimed) → request_in r [] ≡ Queued.untimed u → request_at texts (entry r slot) ≡ Queued.untimed u
unfolding request_at entry
untimed-request texts r slot u e = (shape r).untimed [] (text_of texts (entry r slot)) u e

-- the row of a Frame
pub frame-request : (texts : List ℕ) (d s t : ℕ) {w : Row} → w ≡ entry (Frame d s t) no_slot → request_at texts w ≡ Queued.untimed (Untimed.Frame d s t)
unfolding request_in
frame-request texts d s t e = ap (request_at texts) e ∙ untimed-request texts (Frame d s t) no_slot (Untimed.Frame d s t) refl
