-- A decision carried out: what its answer meets, and what holds between a change of the held touches and the pending list. Assumes nothing.
use Rattle.std.specs.Prelude.{Some, None, Result, Ok, Err}
use Prim.Native.Nat.{ℕ, ◌*◌, ◌≤◌, ◌<◌}
use mathlib.Core.Path.{◌≡◌, refl, sym, ap, ◌∙◌}
use mathlib.Core.Logic.{◌⊎◌, inl, inr}
use mathlib.Core.Bool.{true}
use mathlib.Core.List.{List, [], ◌∷◌, ◌++◌, map}
use mathlib.Core.Option.{none, some}
use native.Mathlib.Omega.{arith}
use borrow.Author.Tests.{eq-eqb, ne_eqb, lt-ltb, le-ltb}
use lib.Ieee.{Float}
use lib.ListN.{length, get_or}
use Rattle.eiproto.specs.declared.event.DeviceCapability.{DeviceCapability}
use Rattle.utf8.specs.Rfc3629.{is_utf8}
use Rattle.wire.specs.Bits.{splice}
use Rattle.wire.proofs.Splices.{splice-none}
use Rattle.requests.specs.Row.{row_at}
use Rattle.requests.specs.declared.cell.Cell.{Cell}
use Rattle.model.specs.Call.{Kind, Input, sight, Load, load, load_of, Call, map_call, split}
use Rattle.model.specs.Session.{Session}
use Rattle.model.specs.Edit.{Amend, Edit, enact_all}
use Rattle.model.specs.Plan.{records, refusal, answer, refuse, edit}
use Rattle.model.specs.Plan as plan
use Rattle.model.specs.Decide.{handler, pend_after, handle}
use Rattle.model.specs.Step.{texts_by, texts, Counts, counts, refuses, step}
use Rattle.model_steps.proofs.Counted.{after_pend, counts-amend, counts-pend}
use Rattle.control.specs.Control.{device_count, pending_at, core_at}
use Rattle.control.specs.Sound.{Sound}
use Rattle.session.specs.View.{Store, store, session, Free, Whole, Lent}
use Rattle.session.specs.Enact.{Enacted, EnactedControl}
use Rattle.session.proofs.Views.{lent-after, enacted-none, devices-length, pending-count, device_seen}
use Rattle.answers.specs.Answer.{error_of, Tells}
use Rattle.answers.specs.Texts.{Stored, TextsAfter}
use Rattle.answers.specs.Meets.{turn, Handled}
use Rattle.answers.specs.declared.Error.{Error}
use Rattle.answers.specs.declared.Answer.{Answer}
use Rattle.answers.proofs.Meetings.{meets-unchanged, meets-done}
use Rattle.client_requests.specs.Decision.{Decision, amends_of, decided_step, CanQueue, Decided}
use Rattle.client_requests.specs.declared.timed.TouchChange.{TouchChange}
use Rattle.client_requests.specs.declared.timed.Queued.{Queued}
use Rattle.client_requests.proofs.Decisions.{interface_slot, interface-within, step_unknown, step-told, step_full, step-texts, step-queued}

-- ---- what was decided

module _ (s : Store) (out : List ℕ) (interface version clock : ℕ) (input : Input) (request : Cell) {d : Decision} (r : Result Answer Error) (whole : Whole s)
    (dec : Decided s.control interface version (sight input) request d) where
  abbrev asked : Call Input
  asked = Call.timed interface version input

  stepped : {x : Decision} → d ≡ x → step (split (turn asked clock out)) (session s) ≡ decided_step x (sight input) (load input) (session s)
  unfolding split map_call load_of
  stepped is = dec.step_is s (split (turn asked clock out)) refl refl ∙ ap (λ (x : Decision). decided_step x (sight input) (load input) (session s)) is

  pub met_ignored : d ≡ Ok None → Tells r plan.Result.accepted 0 → Handled s s out out asked clock r
  met_ignored is told = meets-unchanged s out _ plan.Result.accepted r whole (stepped is) told.0 told.1

  pub met_refused : {error : Error} → d ≡ Err error → Tells r (error_of error) 0 → Handled s s out out asked clock r
  met_refused is told = meets-unchanged s out _ _ r whole (stepped is) told.0 told.1

  pub met_queued : (e : Store) {q : Queued} → d ≡ Ok (Some q) → length e.words ≡ length s.words → length e.reals ≡ length s.reals
      → e.texts ≡ s.texts → Enacted s e (map (λ a. Edit.amend q.slot a) (amends_of q.change) ++ (Edit.pend q.slot (sight input) ∷ [])) (load input)
      → Tells r plan.Result.accepted 0 → Handled s e out out asked clock r
  unfolding edit refuses refusal records
  met_queued e {q} is words reals texts done told =
      meets-done s e out out _ (edit (map (λ a. Edit.amend q.slot a) (amends_of q.change) ++ (Edit.pend q.slot (sight input) ∷ []))) (load input) r
      (record { sound = done.sound; words_long = words ∙ whole.words_long; reals_long = reals ∙ whole.reals_long; texts_long = ap length texts ∙ whole.texts_long })
      (stepped is) done refl told.0 told.1 (sym (splice-none out 0)) (TextsAfter.kept texts)

-- ---- the held touches

pub changes_touch : {c e : List ℕ} (k : ℕ) {x y : TouchChange} → x ≡ y → EnactedControl c e (map (λ a. Edit.amend k a) (amends_of y))
    → EnactedControl c e (map (λ a. Edit.amend k a) (amends_of x))
changes_touch k e h = rw e h

pub changes_nothing : {c : List ℕ} (k : ℕ) {change : TouchChange} → change ≡ TouchChange.Nothing → Sound c
    → EnactedControl c c (map (λ a. Edit.amend k a) (amends_of change))
changes_nothing {c} k e ok = changes_touch k e (λ words reals texts load. enacted-none (store c words reals texts) load ok)

-- a change of them leaves every count
module _ {c e : List ℕ} (k : ℕ) (change : TouchChange) (h : EnactedControl c e (map (λ a. Edit.amend k a) (amends_of change))) where
  abbrev before : Store
  before = store c [] [] []

  abbrev after : Store
  after = store e [] [] []

  counts-kept : counts (session after) ≡ counts (session before)
  unfolding enact_all
  counts-kept = ap counts (h [] [] [] Load.None).view ∙ amends_kept change
    where
      amends_kept : (x : TouchChange) → counts (enact_all (map (λ a. Edit.amend k a) (amends_of x)) Load.None (session before)) ≡ counts (session before)
      amends_kept TouchChange.Nothing = refl
      amends_kept (TouchChange.Down id) = counts-amend k (Amend.touch_down id) Load.None (session before)
      amends_kept (TouchChange.Up id) = counts-amend k (Amend.touch_up id) Load.None (session before)

  devices-kept : device_count e ≡ device_count c
  unfolding counts
  devices-kept = sym (devices-length after) ∙ ap (λ (n : Counts). n.devices) counts-kept ∙ devices-length before

  pending-kept : k < device_count c → pending_at e k ≡ pending_at c k
  unfolding core_at
  pending-kept l =
      sym (pending-count after k (omega (arith, devices-kept))) ∙ ap (λ (n : Counts). get_or n.pending k 0) counts-kept ∙ pending-count before k l

  -- so the pending list has room as it had
  pub changed_lent : {w : List ℕ} {r : List Float} → Lent c w r → CanQueue c k change → Lent e w r × ((k < device_count e) × (pending_at e k < 64))
  changed_lent lent can = (
    lent-after lent h,
    (omega (arith, devices-kept, can.known), omega (arith, pending-kept can.known, can.room)),
  )

-- ---- Utf8

module _ (s : Store) (out : List ℕ) (interface version clock : ℕ) (text : List ℕ) (r : Result Answer Error) (whole : Whole s) (valid : is_utf8 text ≡ true) where
  abbrev call : Call Input
  call = Call.timed interface version (Input.Utf8 text)

  pub text_unknown : interface_slot DeviceCapability.Text interface s.control ≡ none
      → Tells r plan.Result.accepted 0 → Handled s s out out call clock r
  unfolding split map_call sight handler
  text_unknown e told =
      meets-unchanged s out _ plan.Result.accepted r whole
      (step_unknown DeviceCapability.Text interface version (sight (Input.Utf8 text)) valid refl s (split (turn call clock out)) refl e)
      told.0 told.1

  module _ {k : ℕ} (e : interface_slot DeviceCapability.Text interface s.control ≡ some k) where
    -- "0 bytes or above 254"
    pub text_length_lem : (length text ≡ 0) ⊎ (254 < length text) → Tells r (error_of Error.InvalidTextLength) 0 → Handled s s out out call clock r
    unfolding split map_call sight handler handle refuse
    text_length_lem h told =
        meets-unchanged s out _ (plan.Result.refused 6) r whole
        (step-told DeviceCapability.Text interface version (sight (Input.Utf8 text)) valid refl s (split (turn call clock out)) refl e (plan.Result.refused 6) (wrong h))
        told.0 told.1
      where
        wrong : (length text ≡ 0) ⊎ (254 < length text) → handle (handler Kind.TextUtf8).rule version (record { slot = k; device = device_seen s k }) (sight (Input.Utf8 text)) ≡ answer (plan.Result.refused 6)
        wrong (inl z) = rw (eq-eqb (length text) 0 z)
        wrong (inr l) = rw (ne_eqb (length text) 0 (λ z. omega arith), lt-ltb 254 (length text) l)

    module _ (some_bytes : 0 < length text) (few_bytes : length text ≤ 254) where
      text-plan : handle (handler Kind.TextUtf8).rule version (record { slot = k; device = device_seen s k }) (sight (Input.Utf8 text)) ≡ pend_after [] (record { slot = k; device = device_seen s k }) (sight (Input.Utf8 text))
      unfolding sight handler handle
      text-plan = rw (ne_eqb (length text) 0 (λ z. omega arith), le-ltb 254 (length text) few_bytes)

      pub text_full : 64 ≤ (core_at s.control k).pending → Tells r (error_of Error.FullPending) 0 → Handled s s out out call clock r
      unfolding split map_call sight handler
      text_full h told =
          meets-unchanged s out _ (plan.Result.refused 16) r whole
          (step_full DeviceCapability.Text interface version (sight (Input.Utf8 text)) valid refl s (split (turn call clock out)) refl e [] text-plan h)
          told.0 told.1

      module _ (room : (core_at s.control k).pending < 64) where
        pub text-many : 32 ≤ (counts (session s)).texts → Tells r (error_of Error.FullTexts) 0 → Handled s s out out call clock r
        unfolding split map_call sight handler texts texts_by
        text-many h told =
            meets-unchanged s out _ (plan.Result.refused 18) r whole
            (step-texts DeviceCapability.Text interface version (sight (Input.Utf8 text)) valid refl s (split (turn call clock out)) refl e [] text-plan room refl h)
            told.0 told.1

        pub text-queued : (later : Store) {slot : ℕ} → (counts (session s)).texts < 32 → length later.words ≡ length s.words → length later.reals ≡ length s.reals → length later.texts ≡ length s.texts
            → slot < 32 → Free s.control (row_at s.words s.reals) slot
            → Enacted s later (Edit.pend k (sight (Input.Utf8 text)) ∷ []) (Load.Text text) × (later.texts ≡ splice s.texts (256 * slot) text)
            → Tells r plan.Result.accepted 0 → Handled s later out out call clock r
        unfolding split map_call sight load load_of handler pend_after edit refuses refusal records enact_all counts after_pend texts texts_by
        text-queued later h words reals long low free (done, bytes) told =
            let within = interface-within DeviceCapability.Text interface s.control e in
            let counted = counts-pend k (sight (Input.Utf8 text)) (Load.Text text) (session s) (omega (arith, within, devices-length s)) in
            let stored : Stored s later text = record {
              slot = _;
              low = low;
              free = free;
              short = omega arith;
              bytes = bytes;
              more = ap (λ (x : Session Load). (counts x).texts) done.view ∙ ap (λ (n : Counts). n.texts) counted;
            } in
            meets-done s later out out _ (edit (Edit.pend k (sight (Input.Utf8 text)) ∷ [])) (Load.Text text) r
            (record { sound = done.sound; words_long = words ∙ whole.words_long; reals_long = reals ∙ whole.reals_long; texts_long = long ∙ whole.texts_long })
            (step-queued DeviceCapability.Text interface version (sight (Input.Utf8 text)) valid refl s (split (turn call clock out)) refl e [] text-plan room (inr h))
            done refl told.0 told.1 (sym (splice-none out 0)) (TextsAfter.stored interface version text refl stored)
