-- The call that takes every seat out and tells the client. Assumes nothing.
use Rattle.std.specs.Prelude as std
use Rattle.std.specs.Prelude.{Result, Ok, Err, Some, None}
use Rattle.std.specs.Borrow.{Bor}
use Rattle.std.specs.Option as option
use Rattle.model.specs.Plan as plan
use Prim.Native.Nat.{ℕ, ◌+◌, ◌*◌, ◌≤◌, ◌<◌}
use mathlib.Core.Path.{◌≡◌, refl, sym, ap, ap₂, ◌∙◌}
use mathlib.Core.Bool.{Bool, true, false}
use mathlib.Core.List.{List, [], ◌∷◌, ◌++◌}
use mathlib.Core.Option.{Option}
use native.Mathlib.Omega.{arith}
use lib.Ieee.{Float}
use lib.ListN.{length}
use Rattle.eiproto.specs.declared.eiproto_enum.DisconnectReason.{DisconnectReason}
use Rattle.eiproto.specs.Enum.{disconnect_reason_number}
use Rattle.wire.specs.declared.event.Event.{Event}
use Rattle.wire.specs.Bits.{widths}
use Rattle.wire.specs.Record.{layout, text_of, fixed_length, record_length}
use Rattle.model.specs.Call.{Input, Load, Plain, Call, Split, map_call, split}
use Rattle.model.specs.Session.{Connection, Session, view}
use Rattle.model.specs.Edit.{Edit, raised, connection_with, objects_with, with_connection, enact, enact_all}
use Rattle.model.specs.Plan.{Sent, records, refusal, Plan, send}
use Rattle.model.specs.Decide.{destroyed, seats_objects, remove_seats, explanation_text, explained, disconnected, decide_plain, decide}
use Rattle.model.specs.Step.{refuses, step}
use Rattle.model_steps.proofs.Counted.{removes-seats}
use Rattle.model_steps.proofs.Steps.{step-remove, step-remove-short}
use Rattle.control.specs.Control.{connection_of}
use Rattle.session.specs.View.{Store, store, session_in, session, Whole}
use Rattle.session.specs.Slices.{given}
use Rattle.session.specs.Enact.{EnactedControl, EnactedRows}
use Rattle.session.proofs.Views.{enacted_join, view-connection, pending-few}
use Rattle.events.specs.declared.Mark.{Mark}
use Rattle.events.specs.Events.{Sends, Destroys, bare_devices}
use Rattle.events.proofs.Writes.{append-length, one_length, sends_join, destroyed-length, last_is, destroys-sends}
use Rattle.events.proofs.Seen.{seats_objects-seen}
use Rattle.answers.specs.declared.Error.{Error}
use Rattle.answers.specs.declared.Answer.{Answer}
use Rattle.answers.specs.Answer.{error_of, Tells}
use Rattle.answers.specs.Check.{Checks}
use Rattle.answers.specs.Texts.{TextsAfter}
use Rattle.answers.specs.Meets.{turn, Handled}
use Rattle.answers.proofs.Meetings.{meets-done, whole-after, over-handled, told-handled}

-- ---- the event: an explanation that is not given is no text

pub given_explained : (explanation : std.Option (Bor (List ℕ))) → option.is_some explanation ≡ explained (given explanation)
unfolding explained
given_explained None = refl
given_explained (Some text) = refl

pub given_text : (explanation : std.Option (Bor (List ℕ))) (other : Bor (List ℕ)) → other.now ≡ []
    → (option.unwrap_or explanation other).now ≡ explanation_text (given explanation)
unfolding explanation_text
given_text None other e = e
given_text (Some text) other e = refl

-- its length is not the serial's matter
sample_length : (given : Bool) (text : List ℕ) (serial reason : ℕ)
    → record_length (Event.Disconnected serial reason given) text ≡ record_length (Event.Disconnected 0 reason given) text
unfolding record_length fixed_length text_of layout widths
sample_length given text serial reason = refl

pub sample_most : (given : Bool) (text : List ℕ) (serial reason : ℕ) → record_length (Event.Disconnected serial reason given) text ≤ 19 + length text
unfolding record_length fixed_length text_of layout widths
sample_most true text serial reason = omega arith
sample_most false text serial reason = omega arith

-- there is room for it behind what was destroyed
pub end_fits : (given : Bool) (text : List ℕ) (serial reason : ℕ) {at gone n k : ℕ} → gone + record_length (Event.Disconnected 0 reason given) text ≤ n
    → at ≡ gone → k ≡ n → at + record_length (Event.Disconnected serial reason given) text ≤ k
end_fits given text serial reason room a l = omega (arith, sample_length given text serial reason)

-- the seats are neither the serial's matter nor that of the connection's own object
raised-seats : {c d : List ℕ} {n : ℕ} → EnactedControl c d (Edit.raise n ∷ Edit.end_connection ∷ []) → (connection_of d).seats ≡ (connection_of c).seats
unfolding session session_in enact_all enact with_connection connection_with objects_with
raised-seats done = ap (λ (s : Session Load). s.connection.seats) (done [] [] [] Load.None).view

-- ---- the call

abbrev plan_of : (reason : ℕ) (explanation : Option (List ℕ)) → Connection → (gone : List ℕ) → Plan
plan_of reason explanation c gone =
    send
    (destroyed c.last_serial gone
    ++ (record { object = c.id; event = Event.Disconnected (raised (length gone) c.last_serial) reason (explained explanation); text = explanation_text explanation } ∷ []))
    (Edit.raise (length gone) ∷ Edit.end_connection ∷ remove_seats c.seats)

-- 10 or 11
pub disconnected-refused : (s : Store) (w : Whole s) (out : List ℕ) (clock : ℕ) (reason : DisconnectReason) (explanation : Option (List ℕ)) (e : Error) {r : Result Answer Error}
    → Checks explanation (Err e) → Tells r (error_of e) 0 → Handled s s out out (Call.plain (Plain.disconnected reason explanation)) clock r
unfolding decide_plain disconnected
disconnected-refused s w out clock reason explanation e {r} checked told =
    told-handled s out (Plain.disconnected reason explanation) clock (error_of e) r w (checked _) told

module _ (s : Store) (w : Whole s) (out : List ℕ) (clock : ℕ) (reason : DisconnectReason) (explanation : Option (List ℕ)) where
  abbrev call : Call Input
  call = Call.plain (Plain.disconnected reason explanation)

  -- the flag and the text of the event, and the reason's number, are the code's
  module _ (fine : Checks explanation (Ok tt)) (flag : Bool) (flagged : flag ≡ explained explanation)
      (text : List ℕ) (worded : text ≡ explanation_text explanation) (number : ℕ) (numbered : number ≡ disconnect_reason_number reason) where
    abbrev connection : Connection
    connection = connection_of s.control

    abbrev gone : List ℕ
    gone = seats_objects connection.seats (bare_devices s.control)

    abbrev last : ℕ
    last = raised (length gone) connection.last_serial

    abbrev ends : List Sent
    ends = record { object = connection.id; event = Event.Disconnected last number (explained explanation); text = explanation_text explanation } ∷ []

    abbrev told : List Sent
    told = destroyed connection.last_serial gone ++ ends

    abbrev edits : List Edit
    edits = Edit.raise (length gone) ∷ Edit.end_connection ∷ remove_seats connection.seats

    abbrev t : Split Load
    t = split (turn call clock out)

    planned : decide (view (session s)) t.now t.call ≡ send told edits
    unfolding split map_call decide decide_plain disconnected
    planned =
        fine _
        ∙ ap₂ (plan_of (disconnect_reason_number reason) explanation) (view-connection s)
        (ap (λ (c : Connection). seats_objects c.seats (view (session s)).devices) (view-connection s) ∙ seats_objects-seen s connection.seats)
        ∙ ap (λ (n : ℕ). plan_of n explanation connection gone) (sym numbered)

    ends-length : length (records ends) ≡ record_length (Event.Disconnected 0 number flag) text
    ends-length =
        one_length connection.id (Event.Disconnected last number (explained explanation)) (explanation_text explanation)
        ∙ rw (← flagged, ← worded) (sample_length flag text last number)

    told-length : length (records told) ≡ 14 * length gone + record_length (Event.Disconnected 0 number flag) text
    told-length =
        let a = append-length (destroyed connection.last_serial gone) ends in
        let b = destroyed-length connection.last_serial gone in
        let d = ends-length in
        omega arith

    pub disconnected-short : {r : Result Answer Error} → length out < 14 * length gone + record_length (Event.Disconnected 0 number flag) text
        → Tells r (error_of Error.ShortOut) 0 → Handled s s out out call clock r
    unfolding split
    disconnected-short {r} h =
        over-handled s out call clock (error_of Error.ShortOut) r w
        (step-remove-short t (session s) told edits planned (removes-seats _ _) (pending-few s w) (omega (arith, told-length)))

    module _ (room : 14 * length gone + record_length (Event.Disconnected 0 number flag) text ≤ length out) {m : List ℕ} {mark v : Mark}
        (p : Destroys out m mark gone v) (start : mark.at ≡ 0) (serial : mark.serial ≡ connection.last_serial) (l : length m ≡ length out) where
      sends : {later : List ℕ} {object n : ℕ} → object ≡ connection.id
          → Sends m later v.at (record { object = object; event = Event.Disconnected v.serial number flag; text = text } ∷ []) n → Sends out later 0 told n
      sends {later} {object} {n} o q =
          let q' : Sends m later v.at ends n = rw (← o, ← last_is p serial, ← flagged, ← worded) q in
          let first : Sends out m 0 (destroyed connection.last_serial gone) v.at = rw (← start, ← serial) (destroys-sends p) in
          sends_join (omega (arith, p.at, ends-length)) first q'

      pub disconnected-done : {later d c f : List ℕ} {g : List Float} {object n : ℕ} {r : Result Answer Error} → object ≡ connection.id
          → Sends m later v.at (record { object = object; event = Event.Disconnected v.serial number flag; text = text } ∷ []) n
          → EnactedControl s.control d (Edit.raise (length gone) ∷ Edit.end_connection ∷ []) → EnactedRows d s.words s.reals c f g (remove_seats (connection_of d).seats)
          → length f ≡ length s.words → length g ≡ length s.reals → Tells r plan.Result.accepted n
          → Handled s (store c f g s.texts) out later call clock r
      unfolding split send refuses refusal
      disconnected-done {later} {d} {c} {f} {g} {object} {n} {r} o q raises removes words reals answers =
          let e : Store = store c f g s.texts in
          let both = enacted_join (raises s.words s.reals s.texts t.load) (rw (raised-seats raises) at (removes s.texts t.load)) in
          let written = sends o q in
          meets-done s e out later (step t (session s)) (send told edits) t.load r
          (whole-after s w both.sound words reals)
          (step-remove t (session s) told edits planned (removes-seats _ _) (pending-few s w) (omega (arith, told-length)))
          both refl answers.0 (omega (arith, answers.1, written.next)) written.bytes (TextsAfter.kept refl)
