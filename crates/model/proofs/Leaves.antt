-- The seventeen plans of `decide` (Walk): each call that is no timed request, and each that is, has one of them. The calls are gone over here and nowhere else.
-- Assumes nothing.
use Prim.Native.Nat.{ℕ, ◌≤◌, ◌<◌}
use mathlib.Core.Path.{◌≡◌, refl, ap}
use mathlib.Core.Bool.{Bool, true, false, ◌&&◌, not, cond}
use mathlib.Core.List.{List, [], ◌∷◌}
use mathlib.Core.Option.{Option, none, some}
use native.Mathlib.Omega.{arith}
use lib.Dec.{leb, ltb, eqb}
use lib.ListN.{length}
use borrow.Author.Tests.{leb-false}
use Rattle.eiproto.specs.Enum.{device_type_number, disconnect_reason_number}
use Rattle.eiproto.specs.Bits.{common, contains}
use Rattle.eiproto.specs.Capability.{capability_index, unknown_bits}
use Rattle.eiproto.specs.Interface.{ei_callback, ei_touchscreen, lookup}
use Rattle.utf8.specs.Rfc3629.{is_utf8}
use Rattle.wire.specs.declared.event.Event.{Event}
use Rattle.wire.specs.Record.{layout}
use Rattle.touches.specs.Touches.{member}
use Rattle.model.specs.Call.{Sight, HandshakeRequest, Plain, Call}
use Rattle.model.specs.Session.{Untimed, Queued, Seat, View}
use Rattle.model.specs.Edit.{Amend, Edit}
use Rattle.model.specs.Plan.{on, Result, Plan, answer, refuse, ignore, edit, send}
use Rattle.model.specs.Decide.{Found, Rule, handler, device_for_interface, device_of, seat_of, check_utf8, check_name, check_optional, check_capabilities, on_found, send_next, pend_after, if_held, handle, handle_timed, handle_handshake, handle_sync, is_peer_id, handle_sync_message, handle_seat, handle_device, handle_frame, handle_release, handle_seat_release, next_of, seat_added, add_seat, device_added, add_device, objects_of, seats_objects, send_destroyed, remove_device, retire_seat, remove_seat, remove_seats, farewell, disconnected, notify, negotiated, version_answer, decide_plain}
use Rattle.model.specs.Step.{refuses}
use Rattle.model.specs.Refusals.{of_session}
use Rattle.model.specs.Demand3.{wants_held, ignored_on, ignored}
use Rattle.model.specs.Framed.{is_frame, Removes, Closes}

-- an outcome that neither tells an id nor gives a request, and if it refuses, with a number of a running session
unfoldable pub modest : Result → Bool
modest Result.accepted = true
modest (Result.refused n) = of_session n
modest (Result.refused_version i v) = true
modest (Result.seat id) = false
modest (Result.device id) = false
modest (Result.value n) = true
modest (Result.truth b) = true
modest Result.none = true
modest Result.given = false

-- an event that destroys nothing, no `destroyed` and not `disconnected`, and makes no interface
pub record MildKind (kind : ℕ) : Type 0 where
  pub destroys : eqb kind 5 ≡ false
  pub disconnects : eqb kind 14 ≡ false
  pub makes : eqb kind 8 ≡ false

abbrev pub Mild : (ℕ → Event) → Type 0
Mild event = (serial : ℕ) → MildKind (layout (event serial)).kind

mild : {kind : ℕ} → eqb kind 5 ≡ false → eqb kind 14 ≡ false → eqb kind 8 ≡ false → MildKind kind
mild d e m = record { destroys = d; disconnects = e; makes = m }

-- what such an event may change besides
pub data Noted : List Edit → Type 0 where
  nothing : Noted []
  clears : (slot : ℕ) → Noted (Edit.amend slot Amend.clear_touches ∷ [])

-- how a timed request changes the held touches of its device
pub data Touched (held : List ℕ) (touch : ℕ) : List Amend → Type 0 where
  same : Touched held touch []
  down : length held < 16 → Touched held touch (Amend.touch_down touch ∷ [])
  up : Touched held touch (Amend.touch_up touch ∷ [])

-- a request that closes a frame
pub data Closing (v : View) (now : ℕ) (c : Plain) : Type 0 where
  closing : {device serial time : ℕ} {behind : List Untimed} → Closes device v.connection.last_serial now c serial time behind → Closing v now c

pub data Leaf (v : View) (now : ℕ) : Call Sight → Plan → Type 0 where
  -- a timed request: refused; "accepted and does nothing"; pended on the device that was found
  turned : {i ver : ℕ} {x : Sight} (o : Result) → refuses o ≡ true → modest o ≡ true → Leaf v now (Call.timed i ver x) (answer o)
  passed : {i ver : ℕ} {x : Sight} → ignored v i x ≡ true → Leaf v now (Call.timed i ver x) ignore
  pended : {i ver : ℕ} {x : Sight} (f : Found) (amends : List Amend) → device_for_interface (capability_index (handler x.kind).capability) i v ≡ some f →
      ignored v i x ≡ false → Touched f.device.down_touch_ids x.touch amends → Leaf v now (Call.timed i ver x) (pend_after amends f x)
  -- any other call: an answer and nothing else; events; requests queued; a request given; something new
  answered : {c : Plain} (o : Result) → modest o ≡ true → Leaf v now (Call.plain c) (answer o)
  synced : {c : Plain} (callback : ℕ) → Leaf v now (Call.plain c) (send (on callback (Event.CallbackDone 0) ∷ []) [])
  synced_message : {c : Plain} (callback : ℕ) →
      Leaf v now (Call.plain c) (send (on callback (Event.CallbackDone 0) ∷ []) (Edit.peer_object callback ∷ []))
  noted : {c : Plain} (object : ℕ) (event : ℕ → Event) (edits : List Edit) → Mild event → Noted edits →
      Leaf v now (Call.plain c) (send_next v object event edits)
  released : {c : Plain} (cap id : ℕ) (f : Found) → device_for_interface cap id v ≡ some f →
      Leaf v now (Call.plain c) (send_next v id (λ s. Event.Destroyed s) (Edit.amend f.slot (Amend.unlist cap) ∷ []))
  device_gone : {c : Plain} (id : ℕ) (f : Found) → Removes c → device_of id v ≡ some f →
      Leaf v now (Call.plain c) (send_destroyed v (objects_of f.device) (Edit.remove_device f.slot ∷ []))
  seat_gone : {c : Plain} (id : ℕ) (x : Seat) → Removes c → seat_of id v ≡ some x → Leaf v now (Call.plain c) (retire_seat v id)
  all_gone : {c : Plain} (reason : ℕ) (explanation : Option (List ℕ)) → Removes c →
      Leaf v now (Call.plain c)
      (send (farewell v reason explanation) (Edit.raise (length (seats_objects v.connection.seats v.devices)) ∷ Edit.end_connection ∷ remove_seats v.connection.seats))
  queued : {c : Plain} (u : Untimed) → is_frame u ≡ false → Leaf v now (Call.plain c) (edit (Edit.queue u ∷ []))
  flushed : {c : Plain} (id : ℕ) (f : Found) (u : Untimed) → is_frame u ≡ false → Closing v now c → device_of id v ≡ some f →
      Leaf v now (Call.plain c) (edit (Edit.frame f.slot v.connection.last_serial now ∷ Edit.queue u ∷ []))
  closed : {c : Plain} (id serial time : ℕ) (f : Found) → Closing v now c → device_of id v ≡ some f →
      Leaf v now (Call.plain c) (edit (Edit.frame f.slot serial time ∷ []))
  handed : {c : Plain} → Leaf v now (Call.plain c) (record { outcome = Result.given; events = []; edits = Edit.deliver ∷ [] })
  new_seat : {c : Plain} (name : Option (List ℕ)) (caps : ℕ) → Leaf v now (Call.plain c) (seat_added v name caps)
  new_device : {c : Plain} (seat : ℕ) (name : Option (List ℕ)) (type both : ℕ) → Leaf v now (Call.plain c) (device_added v seat name type both)

-- ---- the formers of plans

module _ {v : View} {now : ℕ} {c : Call Sight} where
  cond_leaf : (b : Bool) {x y : Plan} → Leaf v now c x → Leaf v now c y → Leaf v now c (cond b x y)
  cond_leaf true hx hy = hx
  cond_leaf false hx hy = hy

  on_found_leaf : {A : Type 0} (o : Option A) {else : Plan} {then : A → Plan} →
      Leaf v now c else → ((x : A) → o ≡ some x → Leaf v now c (then x)) → Leaf v now c (on_found o else then)
  unfolding on_found
  on_found_leaf none h k = h
  on_found_leaf (some x) h k = k x refl

-- ---- a timed request

module _ (v : View) (now i ver : ℕ) (x : Sight) where
  abbrev Here : Plan → Type 0
  Here plan = Leaf v now (Call.timed i ver x) plan

  refuse_here : (n : ℕ) → refuses (Result.refused n) ≡ true → of_session n ≡ true → Here (refuse n)
  unfolding refuse modest
  refuse_here n h own = turned (Result.refused n) h own

  module _ (f : Found) (e : device_for_interface (capability_index (handler x.kind).capability) i v ≡ some f) where
    held_here : (amends : List Amend) → Touched f.device.down_touch_ids x.touch amends →
        ignored v i x ≡ not (member x.touch f.device.down_touch_ids) → Here (if_held f x amends)
    unfolding if_held
    held_here amends t = go (member x.touch f.device.down_touch_ids)
      where
        go : (b : Bool) → ignored v i x ≡ not b → Here (cond b (pend_after amends f x) ignore)
        go true g = pended f amends e g t
        go false g = passed g

    -- a touch down, where a test passes that lets at most 15 be held
    down_here : (limit : ℕ) → limit ≤ 16 → ignored v i x ≡ false → {y z : Plan} → Here y → Here z →
        Here
        (cond (leb limit (length f.device.down_touch_ids)) y
        (cond (member x.touch f.device.down_touch_ids) z (pend_after (Amend.touch_down x.touch ∷ []) f x)))
    down_here limit m g {y} {z} hy hz = go (leb limit (length f.device.down_touch_ids)) refl
      where
        go : (b : Bool) → leb limit (length f.device.down_touch_ids) ≡ b →
            Here (cond b y (cond (member x.touch f.device.down_touch_ids) z (pend_after (Amend.touch_down x.touch ∷ []) f x)))
        go true l = hy
        go false l =
            let few : length f.device.down_touch_ids < 16 = omega (arith, leb-false limit (length f.device.down_touch_ids) l) in
            cond_leaf (member x.touch f.device.down_touch_ids) hz (pended f (Amend.touch_down x.touch ∷ []) e g (Touched.down few))

    handle_here : (r : Rule) → ignored v i x ≡ (wants_held r && not (member x.touch f.device.down_touch_ids)) → Here (handle r ver f x)
    unfolding handle wants_held refuses modest
    handle_here Rule.queued g = pended f [] e g Touched.same
    handle_here Rule.down g = down_here _ (omega arith) g (refuse_here 4 refl refl) (refuse_here 5 refl refl)
    handle_here Rule.motion g = held_here [] Touched.same g
    handle_here Rule.up g = held_here (Amend.touch_up x.touch ∷ []) Touched.up g
    handle_here Rule.cancel g =
        cond_leaf (ltb ver 2) (turned (Result.refused_version ei_touchscreen ver) refl refl) (held_here (Amend.touch_up x.touch ∷ []) Touched.up g)
    handle_here Rule.utf8 g =
        cond_leaf (eqb x.size 0) (refuse_here 6 refl refl) (cond_leaf (ltb 254 x.size) (refuse_here 6 refl refl) (pended f [] e g Touched.same))

  pub timed_leaf : Here (handle_timed v i ver x)
  unfolding handle_timed on_found ignored ignored_on refuses
  timed_leaf = cond_leaf x.valid (go (device_for_interface (capability_index (handler x.kind).capability) i v) refl) (refuse_here 10 refl refl)
    where
      go : (w : Option Found) → device_for_interface (capability_index (handler x.kind).capability) i v ≡ w →
          Here (on_found w ignore (λ f. handle (handler x.kind).rule ver f x))
      go none e = passed (ap (λ w. ignored_on w x) e)
      go (some f) e = handle_here f e (handler x.kind).rule (ap (λ w. ignored_on w x) e)

-- ---- any other call

module _ {v : View} {now : ℕ} {c : Plain} where
  refuse_leaf : (n : ℕ) → of_session n ≡ true → Leaf v now (Call.plain c) (refuse n)
  unfolding refuse modest
  refuse_leaf n own = answered (Result.refused n) own

  ignore_leaf : Leaf v now (Call.plain c) ignore
  unfolding ignore modest
  ignore_leaf = answered Result.accepted refl

  check_utf8_leaf : (text : List ℕ) {x : Plan} → Leaf v now (Call.plain c) x → Leaf v now (Call.plain c) (check_utf8 text x)
  unfolding check_utf8
  check_utf8_leaf text h = cond_leaf (is_utf8 text) h (refuse_leaf 10 refl)

  check_name_leaf : (text : List ℕ) {x : Plan} → Leaf v now (Call.plain c) x → Leaf v now (Call.plain c) (check_name text x)
  unfolding check_name
  check_name_leaf text h = check_utf8_leaf text (cond_leaf (ltb 254 (length text)) (refuse_leaf 11 refl) h)

  check_optional_leaf : (text : Option (List ℕ)) {x : Plan} → Leaf v now (Call.plain c) x → Leaf v now (Call.plain c) (check_optional text x)
  unfolding check_optional
  check_optional_leaf none h = h
  check_optional_leaf (some text) h = check_name_leaf text h

  check_capabilities_leaf : (caps : ℕ) {x : Plan} → Leaf v now (Call.plain c) x → Leaf v now (Call.plain c) (check_capabilities caps x)
  unfolding check_capabilities
  check_capabilities_leaf caps h = cond_leaf (unknown_bits caps) (refuse_leaf 13 refl) h

  handshake_leaf : (r : HandshakeRequest) → Leaf v now (Call.plain c) (handle_handshake r)
  unfolding handle_handshake
  handshake_leaf (HandshakeRequest.HandshakeVersion n) = refuse_leaf 1 refl
  handshake_leaf HandshakeRequest.Finish = refuse_leaf 1 refl
  handshake_leaf (HandshakeRequest.ContextType t) = refuse_leaf 1 refl
  handshake_leaf (HandshakeRequest.Name t) = check_name_leaf t (refuse_leaf 1 refl)
  handshake_leaf (HandshakeRequest.InterfaceVersion t n) = check_utf8_leaf t (refuse_leaf 1 refl)

  seat_leaf : (id caps : ℕ) (u : Untimed) → is_frame u ≡ false → Leaf v now (Call.plain c) (handle_seat v id caps u)
  unfolding handle_seat
  seat_leaf id caps u n =
      on_found_leaf (seat_of id v) ignore_leaf λ s e.
      cond_leaf (unknown_bits caps) (refuse_leaf 3 refl) (cond_leaf (contains s.capabilities caps) (queued u n) (refuse_leaf 3 refl))

  device_leaf : (id : ℕ) (u : Untimed) → is_frame u ≡ false → Closing v now c → Leaf v now (Call.plain c) (handle_device v now id u)
  unfolding handle_device
  device_leaf id u n k = on_found_leaf (device_of id v) ignore_leaf λ f e. flushed id f u n k e

  next_leaf : (rs : List (Queued (Unit {0}))) → Leaf v now (Call.plain c) (next_of rs)
  unfolding next_of modest
  next_leaf [] = answered Result.none refl
  next_leaf (r ∷ rs) = handed

  version_leaf : (o : Option ℕ) → Leaf v now (Call.plain c) (answer (version_answer o))
  unfolding version_answer modest
  version_leaf none = answered Result.none refl
  version_leaf (some n) = answered (Result.value n) refl

  notify_leaf : (id : ℕ) (event : ℕ → Event) (edits : ℕ → List Edit) → Mild event → ((k : ℕ) → Noted (edits k)) →
      Leaf v now (Call.plain c) (notify v id event edits)
  unfolding notify
  notify_leaf id event edits m h = on_found_leaf (device_of id v) (refuse_leaf 12 refl) λ f e. noted id event (edits f.slot) m (h f.slot)

pub plain_leaf : (v : View) (now : ℕ) (c : Plain) → Leaf v now (Call.plain c) (decide_plain v now c)
unfolding decide_plain handle_sync handle_sync_message handle_frame handle_release handle_seat_release add_seat add_device remove_device remove_seat disconnected modest layout is_frame
plain_leaf v now (Plain.handshake r) = handshake_leaf r
plain_leaf v now (Plain.sync callback ver) = cond_leaf (eqb ver 1) (synced callback) (answered (Result.refused_version ei_callback ver) refl)
plain_leaf v now (Plain.sync_message callback ver) =
    cond_leaf (is_peer_id v callback) (cond_leaf (eqb ver 1) (synced_message callback) (answered (Result.refused_version ei_callback ver) refl)) (refuse_leaf 25 refl)
plain_leaf v now Plain.disconnect = queued Untimed.Disconnect refl
plain_leaf v now Plain.pingpong_done = ignore_leaf
plain_leaf v now (Plain.seat_release seat) = on_found_leaf (seat_of seat v) ignore_leaf λ x e. seat_gone seat x (Removes.seat_release seat) e
plain_leaf v now (Plain.bind seat caps) = seat_leaf seat caps (Untimed.Bind seat caps) refl
plain_leaf v now (Plain.request_device seat caps) = seat_leaf seat caps (Untimed.RequestDevice seat caps) refl
plain_leaf v now (Plain.device_release d) = device_leaf d (Untimed.DeviceClosed d) refl (closing Closes.release)
plain_leaf v now (Plain.device_start_emulating d s q) = device_leaf d (Untimed.DeviceStartEmulating d s q) refl (closing (Closes.start_emulating s q))
plain_leaf v now (Plain.device_stop_emulating d s) = device_leaf d (Untimed.DeviceStopEmulating d s) refl (closing (Closes.stop_emulating s))
plain_leaf v now (Plain.device_frame d s t) = on_found_leaf (device_of d v) ignore_leaf λ f e. closed d s t f (closing (Closes.frame s t)) e
plain_leaf v now (Plain.device_ready d) = device_leaf d (Untimed.Ready d) refl (closing Closes.ready)
plain_leaf v now (Plain.interface_release cap i) =
    on_found_leaf (device_for_interface (capability_index cap) i v) ignore_leaf λ f e. released (capability_index cap) i f e
plain_leaf v now Plain.next_request = next_leaf v.requests
plain_leaf v now (Plain.add_seat name caps) = check_optional_leaf name (check_capabilities_leaf caps (new_seat name caps))
plain_leaf v now (Plain.add_device seat name type caps) =
    check_optional_leaf name
    (check_capabilities_leaf caps (on_found_leaf (seat_of seat v) (refuse_leaf 12 refl) λ s e. new_device seat name (device_type_number type) (common caps s.capabilities)))
plain_leaf v now (Plain.remove_seat seat) = on_found_leaf (seat_of seat v) (refuse_leaf 12 refl) λ x e. seat_gone seat x (Removes.remove_seat seat) e
plain_leaf v now (Plain.remove_device d) = on_found_leaf (device_of d v) (refuse_leaf 12 refl) λ f e. device_gone d f (Removes.remove_device d) e
plain_leaf v now (Plain.resumed d) = notify_leaf d (λ s. Event.Resumed s) (λ k. []) (λ s. mild refl refl refl) (λ k. Noted.nothing)
plain_leaf v now (Plain.paused d) = notify_leaf d (λ s. Event.Paused s) (λ k. Edit.amend k Amend.clear_touches ∷ []) (λ s. mild refl refl refl) (λ k. Noted.clears k)
plain_leaf v now (Plain.start_emulating d q) = notify_leaf d (λ s. Event.StartEmulating s q) (λ k. []) (λ s. mild refl refl refl) (λ k. Noted.nothing)
plain_leaf v now (Plain.stop_emulating d) = notify_leaf d (λ s. Event.StopEmulating s) (λ k. []) (λ s. mild refl refl refl) (λ k. Noted.nothing)
plain_leaf v now (Plain.frame d t) = notify_leaf d (λ s. Event.Frame s t) (λ k. []) (λ s. mild refl refl refl) (λ k. Noted.nothing)
plain_leaf v now (Plain.disconnected reason explanation) = check_optional_leaf explanation (all_gone (disconnect_reason_number reason) explanation (Removes.disconnected reason explanation))
plain_leaf v now Plain.last_serial = answered (Result.value v.connection.last_serial) refl
plain_leaf v now (Plain.has_interface name) = check_utf8_leaf name (answered _ refl)
plain_leaf v now (Plain.interface_version name) = check_utf8_leaf name (version_leaf (negotiated v.connection (lookup name)))
plain_leaf v now (Plain.has_capability d cap) = on_found_leaf (device_of d v) (refuse_leaf 12 refl) λ f e. answered _ refl
