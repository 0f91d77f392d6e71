-- What a change of the control words is among the model's edits. Assumes nothing.
use Prim.Native.Nat.{ℕ, suc, ◌+◌, ◌%◌, ◌≤◌, ◌<◌}
use mathlib.Core.Path.{◌≡◌, refl, sym, ap, ap₂, subst, ◌∙◌}
use mathlib.Core.Bool.{Bool, true, false, ◌||◌, cond, false≢true}
use mathlib.Core.List.{List, [], ◌∷◌, ◌++◌}
use mathlib.Core.Option.{Option, none, some}
use native.Mathlib.Nat.{mod-eq_of_lt}
use native.Mathlib.Omega.{arith}
use borrow.Author.Tests.{lt-leb}
use lib.Dec.{eqb}
use lib.ListN.{length}
use Rattle.eiproto.specs.Bits.{bits_of}
use Rattle.requests.specs.Row.{Row, row_at}
use Rattle.touches.specs.declared.DownTouchIds.{DownTouchIds}
use Rattle.touches.specs.Touches.{touches_limit, held, member, without, down_refusal}
use Rattle.touches.specs.Changes.{Holds, Removes}
use Rattle.model.specs.Call.{Load}
use Rattle.model.specs.Session.{Item, Interface, Seat, Device, Connection, Session}
use Rattle.model.specs.Edit.{Amend, Edit, raised, interfaces_without, seats_without, connection_with, new_device, new_interfaces, device_with, amended, at, with_connection, with_devices, enact, enact_all}
use Rattle.control.specs.Table.{tab, cut_at, map_option, first}
use Rattle.control.specs.Control.{device_count, connection_of, Core, core_at}
use Rattle.control.specs.Sound.{Sound}
use Rattle.control.proofs.Tables.{tab_same, tab_push}
use Rattle.control.proofs.Interfaces.{new_length}
use Rattle.control.proofs.Models.{seats_without_lem}
use Rattle.control.specs.Change.{SameQueue, Reconnected, Amended, Appended, new_core, with_touches, with_interfaces, with_seats, with_serial, with_next_id, with_peer, ended}
use Rattle.control.proofs.Lists.{amended-devices, reconnected_twice, new_core_lem}
use Rattle.session.specs.View.{last_id, pending_row, item_at, device_in, queue_in, session_in, session}
use Rattle.session.specs.Enact.{EnactedControl}
use Rattle.session.proofs.Views.{session_of, device_ext, queue_ext}

-- ---- the session after a change

-- c, rows and t: the control words, rows and texts before; e, later and u: those after
module _ (c e : List ℕ) (rows later : ℕ → Row) (t u : List ℕ) where
  -- the device in slot k changed, with its rows; of the others no row that is theirs
  pub amended-session : {k : ℕ} {to : Core} (change : Device Load → Device Load) → k < device_count c → Amended c e k to
      → device_in e later u k ≡ change (device_in c rows t k)
      → ((j : ℕ) → j < device_count c → (j ≡ k → ⊥) → (m : ℕ) → m < (core_at c j).pending → item_at u (later (pending_row j m)) ≡ item_at t (rows (pending_row j m)))
      → queue_in e later u ≡ queue_in c rows t
      → session_in e later u ≡ with_devices (at change k (session_in c rows t).devices) (session_in c rows t)
  unfolding session_in with_devices
  amended-session change l a h items q =
      session_of e later u a.connection
      (amended-devices (device_in c rows t) (device_in e later u) change l a h (λ j b n. device_ext c e rows later t u j j (a.other j n) (items j b n))) q

-- the same rows and texts
module _ (c e : List ℕ) (rows : ℕ → Row) (texts : List ℕ) where
  same_queue : SameQueue c e → queue_in e rows texts ≡ queue_in c rows texts
  same_queue q = queue_ext c e rows rows texts texts q.head q.queued (λ m l. refl)

  same_device : (i : ℕ) → core_at e i ≡ core_at c i → device_in e rows texts i ≡ device_in c rows texts i
  same_device i q = device_ext c e rows rows texts texts i i q (λ m l. refl)

  reconnected_session : {to : Connection} → Reconnected c e to → session_in e rows texts ≡ with_connection to (session_in c rows texts)
  unfolding session_in with_connection
  reconnected_session r =
      session_of e rows texts r.connection
      (tab_same (device_count e) (device_count c) (device_in e rows texts) (device_in c rows texts) r.devices.count (λ k l. same_device k (r.devices.core k)))
      (same_queue r.queue)

  appended_session : {new : Core} (d : Device Load) → Appended c e new → device_in e rows texts (device_count c) ≡ d
      → session_in e rows texts ≡ with_devices ((session_in c rows texts).devices ++ (d ∷ [])) (session_in c rows texts)
  unfolding session_in with_devices
  appended_session d a h =
      session_of e rows texts a.connection
      (tab_push (device_count c) (device_count e) (device_in c rows texts) (device_in e rows texts) d a.count h
      (λ j l. same_device j (a.other j (λ z. omega arith))))
      (same_queue a.queue)

-- ---- edits of the connection

module _ {c e : List ℕ} where
  reconnects : {to : Connection} (edit : Edit) → Reconnected c e to
      → ((load : Load) (s : Session Load) → s.connection ≡ connection_of c → enact edit load s ≡ with_connection to s) → EnactedControl c e (edit ∷ [])
  unfolding session session_in enact_all
  reconnects edit r h words reals texts load =
      record {
        sound = r.sound;
        view = reconnected_session c e (row_at words reals) texts r ∙ sym (h load (session_in c (row_at words reals) texts) refl);
      }

  pub serial-raised : {serial : ℕ} → Reconnected c e (with_serial serial (connection_of c)) → (n : ℕ) → serial ≡ raised n (connection_of c).last_serial
      → EnactedControl c e (Edit.raise n ∷ [])
  unfolding enact
  serial-raised {serial} r n h =
      reconnects (Edit.raise n) r
      (λ load s q.
      ap (λ (x : Connection). with_connection (connection_with x.seats (raised n x.last_serial) x.next_id x) s) q
      ∙ ap (λ (x : ℕ). with_connection (with_serial x (connection_of c)) s) (sym h))

  pub peer_made : {id : ℕ} → Reconnected c e (with_peer id (connection_of c)) → EnactedControl c e (Edit.peer_object id ∷ [])
  unfolding enact
  peer_made {id} r = reconnects (Edit.peer_object id) r (λ load s q. ap (λ (x : Connection). with_connection (with_peer id x) s) q)

  pub connection-ended : Reconnected c e (ended (connection_of c)) → EnactedControl c e (Edit.end_connection ∷ [])
  unfolding enact
  connection-ended r = reconnects Edit.end_connection r (λ load s q. ap (λ (x : Connection). with_connection (ended x) s) q)

  pub seat_added_lem : {m : List ℕ} (id caps : ℕ) → id ≡ (connection_of c).next_id → caps < 128
      → Reconnected c m (with_seats ((connection_of c).seats ++ (record { id = id; capabilities = caps % 128 } ∷ [])) (connection_of c))
      → Reconnected m e (with_next_id (id + 1) (connection_of m)) → EnactedControl c e (Edit.add_seat caps ∷ [])
  unfolding enact connection_with
  seat_added_lem {m} id caps is small a b =
      reconnects (Edit.add_seat caps) (reconnected_twice a b)
      (λ load s q.
      let masked : caps ≡ caps % 128 = sym (mod-eq_of_lt small) in
      ap (λ (x : Connection). with_connection (connection_with (x.seats ++ (record { id = x.next_id; capabilities = caps } ∷ [])) x.last_serial (x.next_id + 1) x) s) q
      ∙ ap₂ (λ (i n : ℕ). with_connection (connection_with ((connection_of c).seats ++ (record { id = i; capabilities = n } ∷ [])) (connection_of c).last_serial (i + 1) (connection_of c)) s) (sym is) masked
      ∙ ap (λ (x : Connection). with_connection (with_next_id (id + 1) x) s) (sym a.connection))

  pub seat-removed : (id k : ℕ) → first (λ s. eqb s.id id) (connection_of c).seats ≡ some k
      → Reconnected c e (with_seats (cut_at k (connection_of c).seats) (connection_of c)) → EnactedControl c e (Edit.remove_seat id ∷ [])
  unfolding enact
  seat-removed id k found r =
      reconnects (Edit.remove_seat id) r
      (λ load s q.
      ap (λ (x : Connection). with_connection (connection_with (seats_without id x.seats) x.last_serial x.next_id x) s) q
      ∙ ap (λ (ss : List Seat). with_connection (with_seats ss (connection_of c)) s) (seats_without_lem id (connection_of c).seats k found))

-- no seat has the id: none is taken out
seats-kept : (id : ℕ) (ss : List Seat) → first (λ s. eqb s.id id) ss ≡ none → seats_without id ss ≡ ss
unfolding seats_without first map_option
seats-kept id [] e = refl
seats-kept id (s ∷ ss) e = go (eqb s.id id) (first (λ s. eqb s.id id) ss) refl e (λ q. seats-kept id ss q)
  where
    go : (b : Bool) (o : Option ℕ) → first (λ s. eqb s.id id) ss ≡ o → cond b (some 0) (map_option (λ k. suc k) o) ≡ none
        → (first (λ s. eqb s.id id) ss ≡ none → seats_without id ss ≡ ss) → cond b ss (s ∷ seats_without id ss) ≡ s ∷ ss
    go true o r e h = let z : ◌≡◌ {A = ℕ} 0 1 = cc in absurd (omega arith)
    go false none r e h = ap (λ (xs : List Seat). s ∷ xs) (h r)
    go false (some k) r e h = let z : ◌≡◌ {A = ℕ} 0 1 = cc in absurd (omega arith)

pub seat-missing : {c : List ℕ} → Sound c → (id : ℕ) → first (λ s. eqb s.id id) (connection_of c).seats ≡ none → EnactedControl c c (Edit.remove_seat id ∷ [])
unfolding enact connection_with
seat-missing {c} ok id missing =
    reconnects (Edit.remove_seat id)
    (record { connection = refl; devices = record { count = refl; core = λ k. refl }; queue = record { head = refl; queued = refl }; sound = ok })
    (λ load s q.
    ap (λ (x : Connection). with_connection (connection_with (seats_without id x.seats) x.last_serial x.next_id x) s) q
    ∙ ap (λ (ss : List Seat). with_connection (with_seats ss (connection_of c)) s) (seats-kept id (connection_of c).seats missing))

-- ---- edits of a device

-- a device with these pending requests
abbrev device_on : Core → List (Item Load) → Device Load
device_on d ps = record { id = d.id; seat = d.seat; interfaces = d.interfaces; down_touch_ids = d.down_touch_ids; pending = ps }

device_of_lem : (c : List ℕ) (rows : ℕ → Row) (texts : List ℕ) (k : ℕ) (d : Core) → core_at c k ≡ d
    → device_in c rows texts k ≡ device_on d (tab d.pending (λ j. item_at texts (rows (pending_row k j))))
unfolding device_in
device_of_lem c rows texts k d e = ap (λ (x : Core). device_on x (tab x.pending (λ j. item_at texts (rows (pending_row k j))))) e

module _ {c e : List ℕ} where
  amends : {k : ℕ} {to : Core} (a : Amend) → k < device_count c → Amended c e k to → (core_at c k).pending ≡ to.pending
      → ((ps : List (Item Load)) → device_on to ps ≡ amended a (device_on (core_at c k) ps)) → EnactedControl c e (Edit.amend k a ∷ [])
  unfolding session enact_all enact
  amends {k} {to} a l r same h words reals texts load =
      let rows : ℕ → Row = row_at words reals in
      let items : ℕ → List (Item Load) = λ n. tab n (λ j. item_at texts (rows (pending_row k j))) in
      record {
        sound = r.sound;
        view =
            amended-session c e rows rows texts texts (amended a) l r
            (device_of_lem e rows texts k to r.here ∙ h (items to.pending) ∙ ap (λ (n : ℕ). amended a (device_on (core_at c k) (items n))) (sym same)
            ∙ ap (amended a) (sym (device_of_lem c rows texts k (core_at c k) refl)))
            (λ j b n m q. refl) (same_queue c e rows texts r.queue);
      }

  pub interface-unlisted : {k : ℕ} (bit : ℕ) → k < device_count c
      → Amended c e k (with_interfaces (interfaces_without bit (core_at c k).interfaces) (core_at c k)) → EnactedControl c e (Edit.amend k (Amend.unlist bit) ∷ [])
  unfolding amended device_with
  interface-unlisted bit l r = amends (Amend.unlist bit) l r refl (λ ps. refl)

  touched : {k : ℕ} {f : DownTouchIds} (a : Amend) (ids : List ℕ) → k < device_count c → Holds ids f → Amended c e k (with_touches (held f) (core_at c k))
      → ((ps : List (Item Load)) → device_on (with_touches ids (core_at c k)) ps ≡ amended a (device_on (core_at c k) ps)) → EnactedControl c e (Edit.amend k a ∷ [])
  touched {k} a ids l h r q = amends a l r refl (λ ps. ap (λ (xs : List ℕ). device_on (with_touches xs (core_at c k)) ps) h.ids_are ∙ q ps)

  pub touch_downed : {k t : ℕ} {f : DownTouchIds} → k < device_count c → Holds ((core_at c k).down_touch_ids ++ (t ∷ [])) f
      → Amended c e k (with_touches (held f) (core_at c k)) → EnactedControl c e (Edit.amend k (Amend.touch_down t) ∷ [])
  unfolding amended device_with
  touch_downed {k} {t} l h r = touched (Amend.touch_down t) ((core_at c k).down_touch_ids ++ (t ∷ [])) l h r (λ ps. refl)

  pub touch_upped : {k t : ℕ} {f : DownTouchIds} → k < device_count c → Holds (without t (core_at c k).down_touch_ids) f
      → Amended c e k (with_touches (held f) (core_at c k)) → EnactedControl c e (Edit.amend k (Amend.touch_up t) ∷ [])
  unfolding amended device_with
  touch_upped {k} {t} l h r = touched (Amend.touch_up t) (without t (core_at c k).down_touch_ids) l h r (λ ps. refl)

  pub touches_cleared : {k : ℕ} {f : DownTouchIds} → k < device_count c → Holds [] f → Amended c e k (with_touches (held f) (core_at c k))
      → EnactedControl c e (Edit.amend k Amend.clear_touches ∷ [])
  unfolding amended device_with
  touches_cleared l h r = touched Amend.clear_touches [] l h r (λ ps. refl)

-- ---- the touches themselves

pub inserts : {ids : List ℕ} {d f : DownTouchIds} (t : ℕ) → Holds ids d → (down_refusal t (held d) ≡ 0 → Holds (held d ++ (t ∷ [])) f) → length ids < touches_limit → member t ids ≡ false
    → Holds (ids ++ (t ∷ [])) f
unfolding down_refusal
inserts {ids} {d} {f} t h i few new =
    let z : down_refusal t ids ≡ 0 = rw (lt-leb touches_limit (length ids) few, new) in
    subst (λ (xs : List ℕ). Holds (xs ++ (t ∷ [])) f) h.ids_are (i (ap (down_refusal t) h.ids_are ∙ z))

without-unheld : (t : ℕ) (ids : List ℕ) → member t ids ≡ false → without t ids ≡ ids
unfolding member without
without-unheld t [] e = refl
without-unheld t (x ∷ ids) e = go (eqb t x) e (λ q. without-unheld t ids q)
  where
    go : (b : Bool) → b || member t ids ≡ false → (member t ids ≡ false → without t ids ≡ ids) → cond b ids (x ∷ without t ids) ≡ x ∷ ids
    go true e h = absurd (false≢true (sym e))
    go false e h = ap (λ (xs : List ℕ). x ∷ xs) (h e)

pub removes : {ids : List ℕ} {d f : DownTouchIds} {answer : Bool} {t : ℕ} → Holds ids d → Removes t d f answer → Holds (without t ids) f
removes {ids} {d} {f} {answer} {t} h r = go (member t ids) refl
  where
    go : (b : Bool) → member t ids ≡ b → Holds (without t ids) f
    go true q = subst (λ (xs : List ℕ). Holds (without t xs) f) h.ids_are (r.removed (ap (member t) h.ids_are ∙ q))
    go false q =
        subst (λ (x : DownTouchIds). Holds (without t ids) x) (sym (r.unheld (ap (member t) h.ids_are ∙ q)))
        (subst (λ (xs : List ℕ). Holds xs d) (sym (without-unheld t ids q)) h)

-- ---- a device more

new_device_lem : (id seat caps : ℕ) → caps < 128 → id + 1 + length (bits_of caps) ≤ last_id → device_on (new_core id seat (caps % 128)) [] ≡ new_device id seat caps
unfolding new_core new_device
new_device_lem id seat caps small room =
    ap (λ (n : ℕ). device_on (new_core id seat n) []) (mod-eq_of_lt small)
    ∙ ap (λ (is : List Interface). record { id = id; seat = seat; interfaces = is; down_touch_ids = []; pending = [] }) (new_core_lem id seat caps small (omega arith))

enact-device : (s : Session Load) (load : Load) (id seat caps : ℕ) (to : Connection) → id ≡ s.connection.next_id → to ≡ with_next_id (id + 1 + length (bits_of caps)) s.connection
    → with_connection to (with_devices (s.devices ++ (new_device id seat caps ∷ [])) s) ≡ enact (Edit.add_device seat caps) load s
unfolding enact with_connection with_devices new_device
enact-device s load id seat caps to is will =
    ap (λ (x : Connection). with_connection x (with_devices (s.devices ++ (new_device id seat caps ∷ [])) s))
    (will ∙ ap (λ (n : ℕ). with_next_id (id + 1 + n) s.connection) (sym (new_length id caps)))
    ∙ ap
    (λ (i : ℕ).
    record {
      connection = with_next_id (i + 1 + length (new_interfaces i caps)) s.connection;
      devices = s.devices ++ (new_device i seat caps ∷ []);
      requests = s.requests;
    })
    is

pub device_added_lem : {c m e : List ℕ} {n : ℕ} (id seat caps : ℕ) → id ≡ (connection_of c).next_id → n ≡ length (bits_of caps) → caps < 128
    → (connection_of c).next_id + 1 + length (bits_of caps) ≤ last_id → Appended c m (new_core id seat (caps % 128))
    → Reconnected m e (with_next_id (id + 1 + n) (connection_of m)) → EnactedControl c e (Edit.add_device seat caps ∷ [])
unfolding session session_in enact_all new_core tab
device_added_lem {c} {m} {e} {n} id seat caps is counted small room a b words reals texts load =
    let rows : ℕ → Row = row_at words reals in
    let to : Connection = with_next_id (id + 1 + n) (connection_of m) in
    let new = device_of_lem m rows texts (device_count c) (new_core id seat (caps % 128)) a.here ∙ new_device_lem id seat caps small (omega arith) in
    record {
      sound = b.sound;
      view =
          reconnected_session m e rows texts b ∙ ap (with_connection to) (appended_session c m rows texts (new_device id seat caps) a new)
          ∙ enact-device (session_in c rows texts) load id seat caps to is
          (ap₂ (λ (x : Connection) (k : ℕ). with_next_id (id + 1 + k) x) a.connection counted);
    }
