-- What becomes of a timed request, by the device that was found and by what was asked of it. Assumes nothing.
use Prim.Native.Nat.{ℕ, ◌≤◌, ◌<◌}
use mathlib.Core.Path.{◌≡◌, refl, sym, ap, subst, ◌∙◌}
use mathlib.Core.Logic.{◌⊎◌, inl}
use mathlib.Core.Bool.{Bool, true, false, cond, false≢true}
use mathlib.Core.List.{List}
use mathlib.Core.Option.{none, some}
use mathlib.Core.Option as model
use Rattle.std.specs.Prelude.{Some, None, Ok, Err}
use native.Mathlib.Omega.{arith}
use borrow.Author.Tests.{leb-true, leb-false, le-leb, lt-leb, lt-ltb, le-ltb}
use lib.Dec.{leb}
use lib.ListN.{length}
use Rattle.eiproto.specs.Capability.{capability_index, capability_mask}
use Rattle.eiproto.specs.Bits.{bits_of, lowest_bit}
use Rattle.eiproto.specs.declared.event.DeviceCapability.{DeviceCapability}
use Rattle.eiproto.specs.Interface.{ei_touchscreen}
use Rattle.touches.specs.Touches.{member}
use Rattle.requests.specs.declared.cell.Cell.{Cell}
use Rattle.model.specs.Call.{Kind, Input, Sight, sight, touching, Load, Call, Split}
use Rattle.model.specs.Session.{View, view}
use Rattle.model.specs.Edit.{Amend}
use Rattle.model.specs.Plan.{Result, Plan, answer, refuse, ignore}
use Rattle.model.specs.Decide.{Found, Handler, handler, pend_after, if_held, handle, handle_timed, lists_as, device_for_interface, on_found, decide}
use Rattle.model.specs.Step.{texts_by, texts, counts, unchanged, carried_out, step}
use Rattle.model_steps.proofs.Steps.{step-answer, step_pend_full, step-pend-texts, step-pend}
use Rattle.control.specs.Table.{first}
use Rattle.control.specs.Control.{device_count, core_at, cores_of}
use Rattle.control.proofs.Models.{device-passes}
use Rattle.session.specs.View.{Store, session}
use Rattle.session.proofs.Views.{device_seen, devices-length, device-touches, pending-count, found-interface, interface_bound, no_interface}
use Rattle.answers.specs.Answer.{error_of}
use Rattle.answers.specs.declared.Error.{Error}
use Rattle.client_requests.specs.Decision.{amends_of, goes_down, CanChange, Decision, queue_on, CanQueue, Decided, OnlyQueued, OnlyHeld}
use Rattle.client_requests.specs.declared.timed.TouchChange.{TouchChange}
use Rattle.client_requests.specs.declared.timed.Queued.{Queued}

-- ---- decisions are told apart

ignored-not : {q : Queued} → ◌≡◌ {A = Decision} (Ok None) (Ok (Some q)) → ⊥
ignored-not e = let z : ◌≡◌ {A = ℕ} 0 1 = cc in omega arith

refused-not : {e : Error} {q : Queued} → ◌≡◌ {A = Decision} (Err e) (Ok (Some q)) → ⊥
refused-not e = let z : ◌≡◌ {A = ℕ} 0 1 = cc in omega arith

same_queued : {p q : Queued} → ◌≡◌ {A = Decision} (Ok (Some p)) (Ok (Some q)) → p ≡ q
same_queued e = cc

not_down : {change : TouchChange} (held : List ℕ) → goes_down change ≡ false → CanChange change held
not_down held h id e = absurd (false≢true (sym h ∙ ap goes_down e))

-- ---- the pending list's test, and the bit of a capability

module _ (c : List ℕ) (k : ℕ) (change : TouchChange) (request : Cell) where
  pub queue_full : 64 ≤ (core_at c k).pending → Err Error.FullPending ≡ queue_on c k change request
  unfolding queue_on
  queue_full h = rw (le-leb 64 _ h)

  pub queue-room : (core_at c k).pending < 64 → Ok (Some (record { slot = k; change = change; request = request })) ≡ queue_on c k change request
  unfolding queue_on
  queue-room h = rw (lt-leb 64 _ h)

pub bit_is : (cap : DeviceCapability) → lowest_bit (capability_mask cap) ≡ capability_index cap
unfolding lowest_bit bits_of
bit_is DeviceCapability.Pointer = refl
bit_is DeviceCapability.PointerAbsolute = refl
bit_is DeviceCapability.Keyboard = refl
bit_is DeviceCapability.Touch = refl
bit_is DeviceCapability.Scroll = refl
bit_is DeviceCapability.Button = refl
bit_is DeviceCapability.Text = refl

-- ---- the step, by what was found

-- the slot of the device of which the interface is
abbrev pub interface_slot : DeviceCapability → (interface : ℕ) → List ℕ → model.Option ℕ
interface_slot cap interface c = first (λ d. lists_as (capability_index cap) interface d.interfaces) (cores_of c)

pub interface-within : (cap : DeviceCapability) (interface : ℕ) (c : List ℕ) {k : ℕ} → interface_slot cap interface c ≡ some k → k < device_count c
interface-within cap interface c {k} e = (device-passes c (λ d. lists_as (capability_index cap) interface d.interfaces) k e).within

module _ (cap : DeviceCapability) (interface version : ℕ) (i : Sight) (valid : i.valid ≡ true) (by : (handler i.kind).capability ≡ cap) where
  abbrev handled : Found → Plan
  handled f = handle (handler i.kind).rule version f i

  planned : (v : View) (clock : ℕ) → decide v clock (Call.timed interface version i) ≡ on_found (device_for_interface (capability_index cap) interface v) ignore handled
  unfolding decide handle_timed
  planned v clock =
      ap (λ (b : Bool). cond b (on_found (device_for_interface (capability_index (handler i.kind).capability) interface v) ignore handled) (refuse 10)) valid
      ∙ ap (λ (x : DeviceCapability). on_found (device_for_interface (capability_index x) interface v) ignore handled) by

  module _ (s : Store) (t : Split Load) (call : t.call ≡ Call.timed interface version i) where
    plan_is : decide (view (session s)) t.now t.call ≡ on_found (device_for_interface (capability_index cap) interface (view (session s))) ignore handled
    plan_is = ap (decide (view (session s)) t.now) call ∙ planned (view (session s)) t.now

    pub step_unknown : interface_slot cap interface s.control ≡ none → step t (session s) ≡ unchanged (session s) Result.accepted
    unfolding on_found ignore
    step_unknown e =
        step-answer t (session s) Result.accepted (plan_is ∙ ap (λ (o : model.Option Found). on_found o ignore handled) (no_interface s (capability_index cap) interface e))

    module _ {k : ℕ} (e : interface_slot cap interface s.control ≡ some k) where
      abbrev seen : Found
      seen = record { slot = k; device = device_seen s k }

      plan-found : decide (view (session s)) t.now t.call ≡ handled seen
      unfolding on_found
      plan-found = plan_is ∙ ap (λ (o : model.Option Found). on_found o ignore handled) (found-interface s (capability_index cap) interface e)

      pub step-told : (o : Result) → handled seen ≡ answer o → step t (session s) ≡ unchanged (session s) o
      step-told o h = step-answer t (session s) o (plan-found ∙ h)

      module _ (amends : List Amend) (h : handled seen ≡ pend_after amends seen i) where
        known : k < device_count s.control
        known = interface_bound s (capability_index cap) interface e

        within : k < length (session s).devices
        within = rw (devices-length s) known

        pub step_full : 64 ≤ (core_at s.control k).pending → step t (session s) ≡ unchanged (session s) (Result.refused 16)
        step_full f = step_pend_full t (session s) amends seen i (plan-found ∙ h) within (rw (pending-count s k known) f)

        pub step-texts : (core_at s.control k).pending < 64 → texts i.kind ≡ 1 → 32 ≤ (counts (session s)).texts → step t (session s) ≡ unchanged (session s) (Result.refused 18)
        step-texts f x l = step-pend-texts t (session s) amends seen i (plan-found ∙ h) within (rw (pending-count s k known) f) x l

        pub step-queued : (core_at s.control k).pending < 64 → (texts i.kind ≡ 0) ⊎ ((counts (session s)).texts < 32)
            → step t (session s) ≡ carried_out (pend_after amends seen i) t.load (session s)
        step-queued f x = step-pend t (session s) amends seen i (plan-found ∙ h) within (rw (pending-count s k known) f) x

  -- ---- the decision

  module _ (c : List ℕ) (request : Cell) where
    pub unknown : interface_slot cap interface c ≡ none → Decided c interface version i request (Ok None)
    unknown e =
        record {
          step_is = λ s t same call. step_unknown s t call (ap (interface_slot cap interface) same ∙ e);
          fits = λ q e. absurd (ignored-not e);
          same = λ q e. absurd (ignored-not e);
        }

    module _ {k : ℕ} (e : interface_slot cap interface c ≡ some k) where
      found : (s : Store) → s.control ≡ c → interface_slot cap interface s.control ≡ some k
      found s same = ap (interface_slot cap interface) same ∙ e

      -- what a handler reads of a device
      touches : (s : Store) → s.control ≡ c → (device_seen s k).down_touch_ids ≡ (core_at c k).down_touch_ids
      touches s same = device-touches s k ∙ ap (λ (x : List ℕ). (core_at x k).down_touch_ids) same

      waiting : (s : Store) → s.control ≡ c → (core_at s.control k).pending ≡ (core_at c k).pending
      waiting s same = ap (λ (x : List ℕ). (core_at x k).pending) same

      pub ignored : ((f : Found) → f.device.down_touch_ids ≡ (core_at c k).down_touch_ids → handled f ≡ ignore) → Decided c interface version i request (Ok None)
      unfolding ignore
      ignored h =
          record {
            step_is = λ s t same call. step-told s t call (found s same) Result.accepted (h _ (touches s same));
            fits = λ q e. absurd (ignored-not e);
            same = λ q e. absurd (ignored-not e);
          }

      pub refused : (error : Error) → ((f : Found) → f.device.down_touch_ids ≡ (core_at c k).down_touch_ids → handled f ≡ answer (error_of error))
          → Decided c interface version i request (Err error)
      refused error h =
          record {
            step_is = λ s t same call. step-told s t call (found s same) (error_of error) (h _ (touches s same));
            fits = λ q e. absurd (refused-not e);
            same = λ q e. absurd (refused-not e);
          }

      pub queued : {d : Decision} (change : TouchChange) → CanChange change (core_at c k).down_touch_ids → d ≡ queue_on c k change request → texts i.kind ≡ 0
          → ((f : Found) → f.device.down_touch_ids ≡ (core_at c k).down_touch_ids → handled f ≡ pend_after (amends_of change) f i) → Decided c interface version i request d
      unfolding queue_on pend_after core_at
      queued change touch is textless h = rw is (go (leb 64 (core_at c k).pending) refl)
        where
          go : (b : Bool) → leb 64 (core_at c k).pending ≡ b
              → Decided c interface version i request (cond b (Err Error.FullPending) (Ok (Some (record { slot = k; change = change; request = request }))))
          go true full =
              record {
                step_is = λ s t same call. step_full s t call (found s same) (amends_of change) (h _ (touches s same)) (rw (waiting s same) (leb-true 64 _ full));
                fits = λ q e. absurd (refused-not e);
                same = λ q e. absurd (refused-not e);
              }
          go false room =
              record {
                step_is = λ s t same call.
                    step-queued s t call (found s same) (amends_of change) (h _ (touches s same)) (rw (waiting s same) (leb-false 64 _ room)) (inl textless);
                fits = λ q is. subst (λ (x : Queued). CanQueue c x.slot x.change) (same_queued is) (record { known = interface-within cap interface c e; room = leb-false 64 _ room; touch = touch });
                same = λ q is. ap (λ (x : Queued). x.request) (sym (same_queued is));
              }

-- ---- a request of which nothing is asked

module _ (c : List ℕ) {cap : DeviceCapability} (interface version : ℕ) {input : Input} (only : OnlyQueued cap input) (request : Cell) where
  pub plain_unknown : interface_slot cap interface c ≡ none → Decided c interface version (sight input) request (Ok None)
  plain_unknown e = unknown cap interface version (sight input) only.valid (ap (λ (x : Handler). x.capability) only.by) c request e

  pub plain-queued : {k : ℕ} {d : Decision} → interface_slot cap interface c ≡ some k → d ≡ queue_on c k TouchChange.Nothing request → Decided c interface version (sight input) request d
  unfolding texts texts_by handle
  plain-queued {k} e q =
      queued cap interface version (sight input) only.valid (ap (λ (x : Handler). x.capability) only.by) c request e TouchChange.Nothing (not_down (core_at c k).down_touch_ids refl) q
      (ap (λ (x : Handler). texts_by x.rule) only.by) (λ f same. ap (λ (x : Handler). handle x.rule version f (sight input)) only.by)

-- ---- touches

touch-texts : (kind : Kind) → (handler kind).capability ≡ DeviceCapability.Touch → texts kind ≡ 0
unfolding handler texts texts_by
touch-texts Kind.PointerMotion e = refl
touch-texts Kind.PointerMotionAbsolute e = refl
touch-texts Kind.Button e = refl
touch-texts Kind.ScrollDelta e = refl
touch-texts Kind.ScrollStop e = refl
touch-texts Kind.ScrollCancel e = refl
touch-texts Kind.ScrollDiscrete e = refl
touch-texts Kind.KeyboardKey e = refl
touch-texts Kind.TouchDown e = refl
touch-texts Kind.TouchUp e = refl
touch-texts Kind.TouchMotion e = refl
touch-texts Kind.TouchCancel e = refl
touch-texts Kind.TextKeysym e = refl
touch-texts Kind.TextUtf8 e = absurd (text_not e)
  where
    text_not : DeviceCapability.Text ≡ DeviceCapability.Touch → ⊥
    text_not e = let z : ◌≡◌ {A = ℕ} 6 3 = ap capability_index e in omega arith

module _ (c : List ℕ) (touchscreen touch : ℕ) (kind : Kind) (version : ℕ) (by : (handler kind).capability ≡ DeviceCapability.Touch) (request : Cell) where
  pub touch_unknown : interface_slot DeviceCapability.Touch touchscreen c ≡ none → Decided c touchscreen version (touching kind touch) request (Ok None)
  touch_unknown e = unknown DeviceCapability.Touch touchscreen version (touching kind touch) refl by c request e

-- the touch must be held
module _ (c : List ℕ) (touchscreen touch : ℕ) {kind : Kind} {version : ℕ} {change : TouchChange} (only : OnlyHeld kind version touch change)
    (request : Cell) {k : ℕ} (e : interface_slot DeviceCapability.Touch touchscreen c ≡ some k) where
  asked : {b : Bool} → member touch (core_at c k).down_touch_ids ≡ b → (f : Found) → f.device.down_touch_ids ≡ (core_at c k).down_touch_ids
      → handle (handler kind).rule version f (touching kind touch) ≡ cond b (pend_after (amends_of change) f (touching kind touch)) ignore
  unfolding if_held
  asked m f same = only.asks f ∙ ap (λ (b : Bool). cond b (pend_after (amends_of change) f (touching kind touch)) ignore) (ap (member touch) same ∙ m)

  pub touch-not-held : member touch (core_at c k).down_touch_ids ≡ false → Decided c touchscreen version (touching kind touch) request (Ok None)
  touch-not-held m = ignored DeviceCapability.Touch touchscreen version (touching kind touch) refl only.by c request e (asked m)

  pub touch-held : {d : Decision} → goes_down change ≡ false → member touch (core_at c k).down_touch_ids ≡ true → d ≡ queue_on c k change request
      → Decided c touchscreen version (touching kind touch) request d
  touch-held up m q =
      queued DeviceCapability.Touch touchscreen version (touching kind touch) refl only.by c request e change (not_down (core_at c k).down_touch_ids up) q
      (touch-texts kind only.by) (asked m)

-- ---- Down

module _ (c : List ℕ) (touchscreen touch : ℕ) (request : Cell) {k : ℕ} (e : interface_slot DeviceCapability.Touch touchscreen c ≡ some k) where
  abbrev Downs : Decision → Type 0
  Downs d = (version : ℕ) → Decided c touchscreen version (touching Kind.TouchDown touch) request d

  pub down_many : 16 ≤ length (core_at c k).down_touch_ids → Downs (Err Error.TooManyTouches)
  unfolding handler handle refuse
  down_many m version =
      refused DeviceCapability.Touch touchscreen version (touching Kind.TouchDown touch) refl refl c request e Error.TooManyTouches
      (λ f same. rw (ap (λ (x : List ℕ). leb 16 (length x)) same ∙ le-leb 16 _ m))

  module _ (m : length (core_at c k).down_touch_ids < 16) where
    few : (f : Found) → f.device.down_touch_ids ≡ (core_at c k).down_touch_ids → leb 16 (length f.device.down_touch_ids) ≡ false
    few f same = ap (λ (x : List ℕ). leb 16 (length x)) same ∙ lt-leb 16 _ m

    pub down_twice : member touch (core_at c k).down_touch_ids ≡ true → Downs (Err Error.DuplicatedTouchDown)
    unfolding handler handle refuse
    down_twice h version =
        refused DeviceCapability.Touch touchscreen version (touching Kind.TouchDown touch) refl refl c request e Error.DuplicatedTouchDown
        (λ f same. rw (few f same, ap (member touch) same ∙ h))

    pub down_queued : {d : Decision} → member touch (core_at c k).down_touch_ids ≡ false → d ≡ queue_on c k (TouchChange.Down touch) request → Downs d
    unfolding handler handle refuse texts texts_by
    down_queued h q version =
        queued DeviceCapability.Touch touchscreen version (touching Kind.TouchDown touch) refl refl c request e (TouchChange.Down touch)
        (λ id is. (m, ap (λ (x : ℕ). member x (core_at c k).down_touch_ids) (sym (same_touch is)) ∙ h)) q refl
        (λ f same. rw (few f same, ap (member touch) same ∙ h))
      where
        same_touch : {x y : ℕ} → TouchChange.Down x ≡ TouchChange.Down y → x ≡ y
        same_touch q = cc

-- ---- Cancel

module _ (c : List ℕ) (touchscreen touch version : ℕ) where
  pub cancel-held : 2 ≤ version → OnlyHeld Kind.TouchCancel version touch (TouchChange.Up touch)
  unfolding handler handle
  cancel-held h = record { by = refl; asks = λ f. rw (le-ltb version 2 h) }

  pub cancel-old : (request : Cell) {k : ℕ} → interface_slot DeviceCapability.Touch touchscreen c ≡ some k → version < 2
      → Decided c touchscreen version (touching Kind.TouchCancel touch) request (Err (Error.InvalidInterfaceVersion ei_touchscreen version))
  unfolding handler handle
  cancel-old request e h =
      refused DeviceCapability.Touch touchscreen version (touching Kind.TouchCancel touch) refl refl c request e (Error.InvalidInterfaceVersion ei_touchscreen version)
      (λ f same. rw (lt-ltb version 2 h))
