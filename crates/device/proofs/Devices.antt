-- A notice to a device and the question for a capability, from what the functions that they call promise. Assumes nothing.
use Rattle.std.specs.Prelude.{Result}
use Prim.Native.Nat.{ℕ, ◌+◌, ◌≤◌, ◌<◌}
use mathlib.Core.Path.{◌≡◌, refl, sym, ap, ◌∙◌}
use mathlib.Core.Bool.{Bool}
use mathlib.Core.List.{List, [], ◌∷◌}
use mathlib.Core.Option.{some}
use native.Mathlib.Omega.{arith}
use lib.Dec.{eqb}
use lib.ListN.{length}
use Rattle.eiproto.specs.Bits.{bits_from, bits_of, lowest_bit}
use Rattle.eiproto.specs.Capability.{capability_index, capability_mask}
use Rattle.eiproto.specs.declared.event.DeviceCapability.{DeviceCapability}
use Rattle.wire.specs.declared.event.Event.{Event}
use Rattle.wire.specs.Record.{fixed_length, record_length}
use Rattle.model.specs.Call.{Load, Plain, Call, Split, map_call, split}
use Rattle.model.specs.Session.{view}
use Rattle.model.specs.Edit.{Amend, Edit, next_serial, raised}
use Rattle.model.specs.Plan.{Sent, on, records, answer, send}
use Rattle.model.specs.Plan as plan
use Rattle.model.specs.Decide.{lists, decide}
use Rattle.model.specs.Step.{refuses, step}
use Rattle.model_steps.proofs.Steps.{step-sent, step-sent-short}
use Rattle.control.specs.Table.{first}
use Rattle.control.specs.Control.{connection_of, core_at, cores_of}
use Rattle.control.specs.Sound.{Sound}
use Rattle.session.specs.View.{Store, store, session, Whole}
use Rattle.session.specs.Enact.{EnactedControl}
use Rattle.session.proofs.Views.{enacted-none, enacted_join}
use Rattle.events.specs.Events.{Sends}
use Rattle.events.proofs.Writes.{one_length}
use Rattle.answers.specs.Answer.{error_of, Tells}
use Rattle.answers.specs.declared.Error.{Error}
use Rattle.answers.specs.declared.Answer.{Answer}
use Rattle.answers.specs.Texts.{TextsAfter}
use Rattle.answers.specs.Meets.{turn, Handled}
use Rattle.answers.proofs.Meetings.{meets-done, whole-after, over-handled, told-handled}
use Rattle.device.specs.declared.Notice.{Notice}
use Rattle.device.specs.Notice.{notice_call, notice_event, notice_edits}
use Rattle.device.proofs.Plans.{notice_plan, capability-plan, notice_quiet, notice_length}

-- ---- serials

pub raise_one : {serial : ℕ} (last : ℕ) → serial ≡ next_serial last → serial ≡ raised 1 last
unfolding raised
raise_one last e = e

-- ---- what a notice changes

pub enacts_paused : {c d : List ℕ} (n : Notice) (k : ℕ) → n ≡ Notice.Paused → EnactedControl c d (Edit.amend k Amend.clear_touches ∷ []) → EnactedControl c d (notice_edits n k)
enacts_paused n k e h = rw e h

pub enacts_nothing : {c : List ℕ} (n : Notice) (k : ℕ) → notice_edits n k ≡ [] → Sound c → EnactedControl c c (notice_edits n k)
enacts_nothing {c} n k e ok = rw e (λ words reals texts load. enacted-none (store c words reals texts) load ok)

-- ---- a notice

told-length : (n : Notice) (serial : ℕ) {x : ℕ} {told : Event} (text : List ℕ) → told ≡ notice_event n serial → x ≡ fixed_length told → record_length told text ≡ x
told-length n serial text t l = ap (λ (e : Event). record_length e text) t ∙ notice_length n serial text ∙ ap fixed_length (sym t) ∙ sym l

pub notice_room : (n : Notice) (serial : ℕ) {x : ℕ} {told : Event} (text : List ℕ) (size : ℕ) → told ≡ notice_event n serial → x ≡ fixed_length told → x ≤ size
    → 0 + record_length told text ≤ size
notice_room n serial text size t l h = omega (arith, told-length n serial text t l)

module _ (s : Store) (whole : Whole s) (out : List ℕ) (device clock : ℕ) (n : Notice) (serial : ℕ) {k x : ℕ} {told : Event}
    (e : first (λ d. eqb d.id device) (cores_of s.control) ≡ some k) (l : serial ≡ next_serial (connection_of s.control).last_serial)
    (t : told ≡ notice_event n serial) (f : x ≡ fixed_length told) where
  abbrev call : Plain
  call = notice_call n device

  abbrev events : List Sent
  events = on device told ∷ []

  abbrev edits : List Edit
  edits = Edit.raise 1 ∷ notice_edits n k

  abbrev turned : Split Load
  turned = split (turn (Call.plain call) clock out)

  planned : decide (view (session s)) turned.now turned.call ≡ send events edits
  unfolding split map_call decide
  planned = notice_plan s device clock e n ∙ ap (λ (m : Event). send (on device m ∷ []) edits) (sym (t ∙ ap (notice_event n) l))

  events-length : length (records events) ≡ x
  events-length = one_length device told [] ∙ told-length n serial [] t f

  pub notice_short : {r : Result Answer Error} → length out < x → Tells r (error_of Error.ShortOut) 0
      → Handled s s out out (Call.plain call) clock r
  unfolding split
  notice_short {r} h a =
      over-handled s out (Call.plain call) clock (error_of Error.ShortOut) r whole
      (step-sent-short turned (session s) events edits planned (notice_quiet n k) (omega (arith, events-length))) a

  pub notice_told : {c d later : List ℕ} {m : ℕ} {r : Result Answer Error} → x ≤ length out → Sends out later 0 events m
      → ((i : ℕ) → serial ≡ raised i (connection_of s.control).last_serial → EnactedControl s.control c (Edit.raise i ∷ [])) → EnactedControl c d (notice_edits n k)
      → Tells r plan.Result.accepted m → Handled s (store d s.words s.reals s.texts) out later (Call.plain call) clock r
  unfolding split send refuses
  notice_told {c} {d} {later} {r = r} h b raises more a =
      let both =
      enacted_join (raises 1 (raise_one (connection_of s.control).last_serial l) s.words s.reals s.texts turned.load)
      (more s.words s.reals s.texts turned.load) in
      meets-done s (store d s.words s.reals s.texts) out later (step turned (session s)) (send events edits) turned.load r
      (whole-after s whole both.sound refl refl)
      (step-sent turned (session s) events edits planned (notice_quiet n k) (omega (arith, events-length)))
      both refl a.0 (omega (arith, a.1, b.next)) b.bytes (TextsAfter.kept refl)

-- ---- whether a device has a capability

mask_lowest : (c : DeviceCapability) → lowest_bit (capability_mask c) ≡ capability_index c
unfolding lowest_bit bits_of bits_from
mask_lowest DeviceCapability.Pointer = refl
mask_lowest DeviceCapability.PointerAbsolute = refl
mask_lowest DeviceCapability.Keyboard = refl
mask_lowest DeviceCapability.Touch = refl
mask_lowest DeviceCapability.Scroll = refl
mask_lowest DeviceCapability.Button = refl
mask_lowest DeviceCapability.Text = refl

module _ (s : Store) (whole : Whole s) (out : List ℕ) (device clock : ℕ) (capability : DeviceCapability) where
  pub capability-told : {k mask bit : ℕ} {b : Bool} {r : Result Answer Error} → first (λ d. eqb d.id device) (cores_of s.control) ≡ some k
      → mask ≡ capability_mask capability → bit ≡ lowest_bit mask → b ≡ lists bit (core_at s.control k).interfaces
      → Tells r (plan.Result.truth b) 0 → Handled s s out out (Call.plain (Plain.has_capability device capability)) clock r
  capability-told {k} {b = b} {r} e m l h a =
      let i = l ∙ ap lowest_bit m ∙ mask_lowest capability in
      told-handled s out (Plain.has_capability device capability) clock (plan.Result.truth b) r whole
      (capability-plan s device clock e capability
      ∙ ap (λ (v : Bool). answer (plan.Result.truth v)) (sym (h ∙ ap (λ (n : ℕ). lists n (core_at s.control k).interfaces) i))) a
