-- The oldest request, as `next_request` gives it. Assumes nothing.
use Prim.Native.Nat.{ℕ, suc, ◌+◌, ◌-◌, ◌*◌, ◌%◌, ◌≤◌, ◌<◌}
use mathlib.Core.Path.{◌≡◌, refl, sym, ap, ap₂, subst, ◌∙◌}
use mathlib.Core.Bool.{true, false, cond, false≢true}
use mathlib.Core.Option.{Option, none, some}
use mathlib.Core.List.{List, [], ◌∷◌, append-nil, map}
use native.Mathlib.Omega.{arith}
use lib.Ieee.{Float}
use lib.ListN.{length, take, drop, length-drop}
use lib.Seq.{length-take-le, take_at}
use Rattle.wire.specs.Bits.{splice}
use Rattle.wire.proofs.Splices.{splice-none}
use Rattle.requests.specs.Request.{form, given, or_none, text_length}
use Rattle.requests.specs.Row.{texts_limit, no_slot, Row, entry, row_of, row_at, request_of, cell_at}
use Rattle.requests.specs.declared.cell.Cell.{Cell}
use Rattle.requests.specs.declared.request.EisRequest.{EisRequest}
use Rattle.model.specs.Call.{sight, Load, load_of, Plain, Call, map_call, split}
use Rattle.model.specs.Session.{Queued, map_queued, map_session, blank, view}
use Rattle.model.specs.Edit.{Edit}
use Rattle.model.specs.Plan as plan
use Rattle.model.specs.Plan.{answer, refusal}
use Rattle.model.specs.Decide.{next_of, decide_plain, decide}
use Rattle.model.specs.Step.{Step, text_bytes, carried_out, refuses, unchanged, step}
use Rattle.model_steps.proofs.Steps.{deliver_plan, step-answer, step-deliver, step-deliver-short, deliver-gave}
use Rattle.control.specs.Table.{tab}
use Rattle.control.specs.Control.{queue_head, queue_length}
use Rattle.session.specs.View.{Store, store, slot_length, texts_length, queue_row, text_in, request_in, text_of, request_at, queue_in, session, is_whole, Whole}
use Rattle.session.specs.Enact.{Enacted}
use Rattle.session.proofs.Shapes.{carried, shape}
use Rattle.session.proofs.Views.{requests_are}
use Rattle.answers.specs.Meets.{turn}
use Rattle.answers.specs.declared.Error.{Error}
use Rattle.converter.specs.Next.{NextRequest, next_outcome, given_in, given_text, Gives, Delivered}
use Rattle.std.specs.Prelude.{Some, None, Ok, Err}

-- ---- a request's text

given_text_lem : (q : Queued Load) → given_text (q ∷ []) ≡ carried q
unfolding given_text
given_text_lem (Queued.timed d t i) = append-nil (text_in i.load)
given_text_lem (Queued.untimed r) = refl

-- a row's text lies within its slot, and so within the texts
slot-room : (o : Option ℕ) (s n : ℕ) → n ≡ or_none o → n < slot_length → slot_length * cond (given o) (s % texts_limit) no_slot + n ≤ texts_length
slot-room none s n e l = omega arith
slot-room (some m) s n e l = omega arith

pub text-room : (w : List ℕ) (r : List Float) (i n : ℕ) → n ≡ text_length (row_at w r i).request → n < slot_length
    → slot_length * (row_at w r i).slot + n ≤ texts_length
unfolding row_at row_of entry
text-room w r i n e l = slot-room (form (request_of (cell_at w r i))).text (cell_at w r i).flag n e l

-- ---- the oldest request

module _ (s : Store) where
  abbrev pub head : Row
  head = row_at s.words s.reals (queue_row (queue_head s.control) 0)

  -- the cell of that row means its request, and tells the slot of its text
  module _ {c : Cell} (is : c ≡ cell_at s.words s.reals (queue_row (queue_head s.control) 0)) where
    pub head-request : request_of c ≡ head.request
    unfolding row_at row_of entry
    head-request = ap request_of is

    pub head-slot : (row_of c).slot ≡ head.slot
    unfolding row_at
    head-slot = ap (λ (x : Cell). (row_of x).slot) is

  abbrev row : ℕ → Queued Load
  row j = request_at s.texts (row_at s.words s.reals (queue_row (queue_head s.control) j))

  none-queued : queue_length s.control ≡ 0 → (session s).requests ≡ []
  unfolding queue_in tab
  none-queued e = requests_are s ∙ ap (λ (n : ℕ). tab n row) e

  some-queued : 0 < queue_length s.control → (session s).requests ≡ row 0 ∷ tab (queue_length s.control - 1) (λ j. row (suc j))
  unfolding queue_in tab
  some-queued l =
      let z : queue_length s.control ≡ suc (queue_length s.control - 1) = omega arith in
      requests_are s ∙ ap (λ (n : ℕ). tab n row) z

  next-none : (clock : ℕ) → (session s).requests ≡ [] → decide (view (session s)) clock (map_call sight (Call.plain Plain.next_request)) ≡ answer plan.Result.none
  unfolding map_call decide decide_plain view map_session next_of
  next-none clock e = ap (λ (rs : List (Queued Load)). next_of (map (map_queued blank) rs)) e

  next-some : (clock : ℕ) {r : Queued Load} {rs : List (Queued Load)} → (session s).requests ≡ r ∷ rs
      → decide (view (session s)) clock (map_call sight (Call.plain Plain.next_request)) ≡ deliver_plan
  unfolding map_call decide decide_plain view map_session next_of
  next-some clock e = ap (λ (rs : List (Queued Load)). next_of (map (map_queued blank) rs)) e

  module _ (buffer : List ℕ) (clock : ℕ) where
    abbrev next_step : Step Load
    next_step = step (split (turn (Call.plain Plain.next_request) clock buffer)) (session s)

    gives-unchanged : (r : NextRequest) → Whole s → given_in r buffer ≡ [] → next_step ≡ unchanged (session s) (next_outcome r) → Gives s s buffer buffer next_step r
    unfolding unchanged given_text
    gives-unchanged r w g e =
        record {
          whole = w;
          view = sym (ap (λ (x : Step Load). x.session) e);
          outcome = sym (ap (λ (x : Step Load). x.outcome) e);
          gave = g ∙ sym (ap (λ (x : Step Load). x.gave) e);
          bytes = sym (splice-none buffer 0) ∙ sym (ap (λ (x : Step Load). splice buffer 0 (given_text x.gave)) e);
          kept = λ h. refl;
          texts = refl;
        }

    pub given-none : Whole s → queue_length s.control ≡ 0 → Gives s s buffer buffer next_step (Ok None)
    unfolding split
    given-none w e =
        gives-unchanged (Ok None) w refl
        (step-answer (split (turn (Call.plain Plain.next_request) clock buffer)) (session s) plan.Result.none (next-none clock (none-queued e)))

    module _ (l : 0 < queue_length s.control) {q : EisRequest} {n : ℕ} (is : q ≡ head.request) (size : n ≡ text_length q) where
      needed : text_bytes (row 0 ∷ []) ≡ n
      unfolding request_at
      needed = (shape head.request).bytes (text_of s.texts head) ∙ sym (size ∙ ap text_length is)

      pub given-short : Whole s → length buffer < n → Gives s s buffer buffer next_step (Err Error.ShortOut)
      unfolding split
      given-short w h =
          gives-unchanged (Err Error.ShortOut) w refl
          (step-deliver-short (split (turn (Call.plain Plain.next_request) clock buffer)) (session s) (some-queued l) (next-some clock (some-queued l)) (rw needed h))

      module _ {slot : ℕ} {later : List ℕ} (at : slot ≡ head.slot) (room : slot_length * slot + n ≤ length s.texts) (fits : n ≤ length buffer)
          (copied : later ≡ splice buffer 0 (take n (drop (slot_length * slot) s.texts))) where
        abbrev text : List ℕ
        text = take n (drop (slot_length * slot) s.texts)

        text-long : length text ≡ n
        text-long = length-take-le n (drop (slot_length * slot) s.texts) (omega (arith, length-drop (slot_length * slot) s.texts))

        -- the row's text
        text_at : text_of s.texts head ≡ text
        unfolding text_of
        text_at =
            ap₂ (λ (k j : ℕ). take k (drop (slot_length * j) s.texts)) (sym (size ∙ ap text_length is)) (sym at)

        front : take (text_length q) later ≡ text
        unfolding splice
        front = ap (take (text_length q)) copied ∙ take_at text (drop (0 + length text) buffer) (text_length q) (text-long ∙ size)

        told : request_in q (take (text_length q) later) ≡ row 0
        unfolding request_at
        told = ap₂ (λ (x : EisRequest) (t : List ℕ). request_in x t) is (front ∙ sym text_at)

        held : given_text (row 0 ∷ []) ≡ text
        unfolding request_at text_of
        held = given_text_lem (row 0) ∙ (shape head.request).text (drop (slot_length * head.slot) s.texts) ∙ text_at

        taken : next_step ≡ carried_out deliver_plan Load.None (session s)
        unfolding split load_of
        taken = step-deliver (split (turn (Call.plain Plain.next_request) clock buffer)) (session s) (some-queued l) (next-some clock (some-queued l)) (rw needed fits)

        gave_is : next_step.gave ≡ row 0 ∷ []
        unfolding split load_of
        gave_is =
            ap (λ (x : Step Load). x.gave) taken ∙ deliver-gave (split (turn (Call.plain Plain.next_request) clock buffer)) (session s) (some-queued l)

        pub given-done : {d v : List ℕ} {f : List Float} → Whole (store d v f s.texts) → Enacted s (store d v f s.texts) (Edit.deliver ∷ []) Load.None
            → Gives s (store d v f s.texts) buffer later next_step (Ok (Some q))
        unfolding carried_out refuses refusal
        given-done w done =
            record {
              whole = w;
              view = done.view ∙ sym (ap (λ (x : Step Load). x.session) taken);
              outcome = sym (ap (λ (x : Step Load). x.outcome) taken);
              gave = ap (λ (x : Queued Load). x ∷ []) told ∙ sym gave_is;
              bytes = copied ∙ ap (splice buffer 0) (sym (ap given_text gave_is ∙ held));
              kept = λ h. absurd (false≢true (sym (ap (λ (x : Step Load). refuses x.outcome) taken) ∙ h));
              texts = refl;
            }

-- ---- 21 before all else

pub delivered-bad : (s : Store) (buffer : List ℕ) → is_whole s ≡ false → Delivered s s buffer buffer (Err Error.BadState)
delivered-bad s buffer b = record { damaged = λ h. (refl, (refl, refl)); handled = λ clock h. absurd (false≢true (sym b ∙ h)) }

pub delivered : {s e : Store} {buffer later : List ℕ} {r : NextRequest} → is_whole s ≡ true
    → ((clock : ℕ) → Gives s e buffer later (step (split (turn (Call.plain Plain.next_request) clock buffer)) (session s)) r) → Delivered s e buffer later r
delivered b g = record { damaged = λ h. absurd (false≢true (sym h ∙ b)); handled = λ clock h. g clock }

-- the same answer, told otherwise
pub delivered_as : {s e : Store} {buffer later : List ℕ} {r k : NextRequest} → r ≡ k → Delivered s e buffer later r → Delivered s e buffer later k
delivered_as {s} {e} {buffer} {later} p h = subst (Delivered s e buffer later) p h
