-- What the slices of a session show: its tables' lengths, what is found in them, and when two stores show the same. Assumes nothing.
use Prim.Native.Nat.{ℕ, ◌≤◌, ◌<◌}
use mathlib.Core.Path.{◌≡◌, refl, sym, ap, ◌∙◌}
use mathlib.Core.Bool.{Bool, true, false, ◌&&◌, false≢true}
use mathlib.Core.List.{List, [], ◌∷◌, ◌++◌, map}
use mathlib.Core.Option.{none, some}
use native.Mathlib.Omega.{arith}
use borrow.Author.Tests.{eqb-true, eq-eqb}
use lib.Dec.{eqb}
use lib.Ieee.{Float}
use lib.ListN.{length, get_or}
use Rattle.requests.specs.Row.{Row, row_at}
use Rattle.model.specs.Call.{Load}
use Rattle.model.specs.Session.{Queued, Device, Connection, Session, map_device, map_session, blank, view}
use Rattle.model.specs.Edit.{Edit, enact_all}
use Rattle.model.specs.Decide.{find, device_of, lists_as, device_for_interface, seat_in, seat_of}
use Rattle.model.specs.Step.{counts}
use Rattle.control.specs.Table.{tab, map_option, first}
use Rattle.control.specs.Control.{pending_limit, seat_count, device_count, queue_head, queue_length, seat_at, connection_of, Core, core_at, cores_of}
use Rattle.control.specs.Sound.{Sound, is_sound}
use Rattle.control.proofs.Tables.{tab_same, tab-length, tab_at, tab-map}
use Rattle.control.proofs.Models as models
use Rattle.control.proofs.Sounds.{sound_bounds, bounds_sound, pending_bound}
use Rattle.session.specs.View.{Store, words_length, reals_length, texts_length, pending_row, queue_row, request_at, item_at, device_in, queue_in, session_in, session, is_lent, is_whole, Lent, Whole, Lending, is_intact}
use Rattle.session.specs.Enact.{Enacted, EnactedControl}

-- ---- damaged states

both : (a b : Bool) → a && b ≡ true → (a ≡ true) × (b ≡ true)
both true b e = (refl, e)
both false b e = absurd (false≢true e)

pub lent_parts : (c w : List ℕ) (r : List Float) → is_lent c w r ≡ true → Lent c w r
unfolding is_lent
lent_parts c w r e =
    let sound = both (is_sound c) _ e in
    let words = both (eqb (length w) words_length) _ sound.1 in
    record {
      sound = sound_bounds c sound.0;
      words_long = eqb-true (length w) words_length words.0;
      reals_long = eqb-true (length r) reals_length words.1;
    }

pub lent_is : (c w : List ℕ) (r : List Float) → Lent c w r → is_lent c w r ≡ true
unfolding is_lent
lent_is c w r l =
    rw (bounds_sound c l.sound, eq-eqb (length w) words_length l.words_long, eq-eqb (length r) reals_length l.reals_long)

pub whole_parts : (s : Store) → is_whole s ≡ true → Whole s
unfolding is_whole
whole_parts s e =
    let both = both (is_lent s.control s.words s.reals) _ e in
    let l = lent_parts s.control s.words s.reals both.0 in
    record {
      sound = l.sound;
      words_long = l.words_long;
      reals_long = l.reals_long;
      texts_long = eqb-true (length s.texts) texts_length both.1;
    }

-- what the functions that change rows ask for, and have again once control words are edited
pub lent-part : (s : Store) → Whole s → Lent s.control s.words s.reals
lent-part s w = record { sound = w.sound; words_long = w.words_long; reals_long = w.reals_long }

pub lent-after : {c d w : List ℕ} {r : List Float} {edits : List Edit} → Lent c w r → EnactedControl c d edits → Lent d w r
lent-after l done = record { sound = (done [] [] [] Load.None).sound; words_long = l.words_long; reals_long = l.reals_long }

pub whole_is : (s : Store) → Whole s → is_whole s ≡ true
unfolding is_whole
whole_is s w =
    rw (lent_is s.control s.words s.reals (lent-part s w), eq-eqb (length s.texts) texts_length w.texts_long)

-- a session that is whole is so in every part that a call may be lent
pub whole_intact : (l : Lending) (s : Store) → Whole s → is_intact l s ≡ true
unfolding is_intact
whole_intact Lending.control s w = bounds_sound s.control w.sound
whole_intact Lending.rows s w = lent_is s.control s.words s.reals (lent-part s w)
whole_intact Lending.all s w = whole_is s w

-- the tests' ways to answer
pub lent-not : (c w : List ℕ) (r : List Float) → (Lent c w r → ⊥) → false ≡ is_lent c w r
lent-not c w r h = go (is_lent c w r) refl
  where
    go : (b : Bool) → is_lent c w r ≡ b → false ≡ b
    go true e = absurd (h (lent_parts c w r e))
    go false e = refl

pub lent-last : (c w : List ℕ) (r : List Float) → Sound c → length w ≡ words_length → eqb (length r) reals_length ≡ is_lent c w r
unfolding is_lent
lent-last c w r ok words = rw (bounds_sound c ok, eq-eqb (length w) words_length words)

pub whole-not : (s : Store) → is_lent s.control s.words s.reals ≡ false → false ≡ is_whole s
unfolding is_whole
whole-not s e = rw e

pub whole-last : (s : Store) → is_lent s.control s.words s.reals ≡ true → eqb (length s.texts) texts_length ≡ is_whole s
unfolding is_whole
whole-last s e = rw e

-- ---- edits one after another

enact-append : (xs ys : List Edit) (load : Load) (s : Session Load) → enact_all (xs ++ ys) load s ≡ enact_all ys load (enact_all xs load s)
unfolding enact_all
enact-append [] ys load s = refl
enact-append (x ∷ xs) ys load s = enact-append xs ys load _

pub enacted-none : (s : Store) (load : Load) → Sound s.control → Enacted s s [] load
unfolding enact_all
enacted-none s load ok = record { sound = ok; view = refl }

pub enacted_join : {s m e : Store} {xs ys : List Edit} {load : Load} → Enacted s m xs load → Enacted m e ys load → Enacted s e (xs ++ ys) load
enacted_join {s} {m} {e} {xs} {ys} {load} a b =
    record { sound = b.sound; view = b.view ∙ ap (enact_all ys load) a.view ∙ sym (enact-append xs ys load (session s)) }

-- ---- what a reader gives

module _ (s : Store) where
  pub connection_is : (session s).connection ≡ connection_of s.control
  unfolding session session_in
  connection_is = refl

  pub view-connection : (view (session s)).connection ≡ connection_of s.control
  unfolding view map_session session session_in
  view-connection = refl

  -- the device in slot k
  abbrev pub device_at : ℕ → Device Load
  device_at k = device_in s.control (row_at s.words s.reals) s.texts k

  -- the same without its payloads
  abbrev pub device_seen : ℕ → Device (Unit {0})
  device_seen k = map_device blank (device_at k)

  pub devices_are : (session s).devices ≡ tab (device_count s.control) device_at
  unfolding session session_in
  devices_are = refl

  pub requests_are : (session s).requests ≡ queue_in s.control (row_at s.words s.reals) s.texts
  unfolding session session_in
  requests_are = refl

  pub seats-length : length (session s).connection.seats ≡ seat_count s.control
  seats-length = ap (λ (n : Connection). length n.seats) connection_is ∙ models.seats-length s.control

  pub devices-length : length (session s).devices ≡ device_count s.control
  devices-length = ap length devices_are ∙ tab-length (device_count s.control) device_at

  pub requests-length : length (session s).requests ≡ queue_length s.control
  unfolding queue_in
  requests-length = ap length requests_are ∙ tab-length (queue_length s.control) _

module _ (s : Store) where
  pub seen-devices : (view (session s)).devices ≡ tab (device_count s.control) (device_seen s)
  unfolding view map_session
  seen-devices = ap (map (map_device blank)) (devices_are s) ∙ tab-map (map_device blank) (device_count s.control) (device_at s)

  pub device_id_lem : (k : ℕ) → (device_seen s k).id ≡ (core_at s.control k).id
  unfolding map_device device_in
  device_id_lem k = refl

  pub device-seat : (k : ℕ) → (device_seen s k).seat ≡ (core_at s.control k).seat
  unfolding map_device device_in
  device-seat k = refl

  pub device-interfaces : (k : ℕ) → (device_seen s k).interfaces ≡ (core_at s.control k).interfaces
  unfolding map_device device_in
  device-interfaces k = refl

  pub device-touches : (k : ℕ) → (device_seen s k).down_touch_ids ≡ (core_at s.control k).down_touch_ids
  unfolding map_device device_in
  device-touches k = refl

  -- how many are pending
  pub device-pending : (k : ℕ) → length (device_at s k).pending ≡ (core_at s.control k).pending
  unfolding device_in
  device-pending k = tab-length (core_at s.control k).pending _

  pub pending-count : (k : ℕ) → k < device_count s.control → get_or (counts (session s)).pending k 0 ≡ (core_at s.control k).pending
  unfolding counts
  pending-count k l =
      let n : ℕ = device_count s.control in
      ap (λ (ds : List (Device Load)). get_or (map (λ d. length d.pending) ds) k 0) (devices_are s)
      ∙ ap (λ (ns : List ℕ). get_or ns k 0) (tab-map (λ d. length d.pending) n (device_at s))
      ∙ tab_at n (λ j. length (device_at s j).pending) k 0 l ∙ device-pending k

  -- every pending list is within its limit
  pub pending-few : Whole s → (k : ℕ) → k < length (session s).devices → get_or (counts (session s)).pending k 0 ≤ pending_limit
  pending-few w k h =
      let l : k < device_count s.control = omega (arith, devices-length s) in omega (arith, pending-count k l, pending_bound w.sound k l)

  -- ---- what is found

  pub device-found : (id : ℕ) → device_of id (view (session s)) ≡ map_option (λ k. record { slot = k; device = device_seen s k }) (first (λ d. eqb d.id id) (cores_of s.control))
  unfolding device_of
  device-found id =
      ap (find (λ d. eqb d.id id)) seen-devices
      ∙ models.devices-find s.control (λ d. eqb d.id id) (λ d. eqb d.id id) (device_seen s) (λ j l. ap (λ (i : ℕ). eqb i id) (device_id_lem j))

  pub interface-found : (bit id : ℕ)
      → device_for_interface bit id (view (session s)) ≡ map_option (λ k. record { slot = k; device = device_seen s k }) (first (λ d. lists_as bit id d.interfaces) (cores_of s.control))
  unfolding device_for_interface
  interface-found bit id =
      ap (find (λ d. lists_as bit id d.interfaces)) seen-devices
      ∙ models.devices-find s.control (λ d. lists_as bit id d.interfaces) (λ d. lists_as bit id d.interfaces) (device_seen s)
      (λ j l. ap (lists_as bit id) (device-interfaces j))

  pub seat-found : (id : ℕ) → seat_of id (view (session s)) ≡ map_option (seat_at s.control) (first (λ t. eqb t.id id) (connection_of s.control).seats)
  unfolding seat_of
  seat-found id = ap (λ (n : Connection). seat_in id n.seats) (view-connection s) ∙ models.seats-find s.control id

  module _ (id : ℕ) where
    pub found-device : {k : ℕ} → first (λ d. eqb d.id id) (cores_of s.control) ≡ some k
        → device_of id (view (session s)) ≡ some (record { slot = k; device = device_seen s k })
    unfolding map_option
    found-device e = device-found id ∙ ap (map_option (λ k. record { slot = k; device = device_seen s k })) e

    pub found_bound : {k : ℕ} → first (λ d. eqb d.id id) (cores_of s.control) ≡ some k → k < device_count s.control
    found_bound {k} e = (models.device-passes s.control (λ d. eqb d.id id) k e).within

    pub no_device : first (λ d. eqb d.id id) (cores_of s.control) ≡ none → device_of id (view (session s)) ≡ none
    unfolding map_option
    no_device e = device-found id ∙ ap (map_option (λ k. record { slot = k; device = device_seen s k })) e

    pub found-seat : {k : ℕ} → first (λ t. eqb t.id id) (connection_of s.control).seats ≡ some k
        → seat_of id (view (session s)) ≡ some (seat_at s.control k)
    unfolding map_option
    found-seat e = seat-found id ∙ ap (map_option (seat_at s.control)) e

    pub seat_bound : {k : ℕ} → first (λ t. eqb t.id id) (connection_of s.control).seats ≡ some k → k < seat_count s.control
    seat_bound {k} e = (models.seat-passes s.control (λ t. eqb t.id id) k e).within

    pub seat_is : {k : ℕ} → first (λ t. eqb t.id id) (connection_of s.control).seats ≡ some k → (seat_at s.control k).id ≡ id
    seat_is {k} e = eqb-true (seat_at s.control k).id id (models.seat-passes s.control (λ t. eqb t.id id) k e).passes

    pub no_seat : first (λ t. eqb t.id id) (connection_of s.control).seats ≡ none → seat_of id (view (session s)) ≡ none
    unfolding map_option
    no_seat e = seat-found id ∙ ap (map_option (seat_at s.control)) e

  module _ (bit id : ℕ) where
    pub found-interface : {k : ℕ} → first (λ d. lists_as bit id d.interfaces) (cores_of s.control) ≡ some k
        → device_for_interface bit id (view (session s)) ≡ some (record { slot = k; device = device_seen s k })
    unfolding map_option
    found-interface e = interface-found bit id ∙ ap (map_option (λ k. record { slot = k; device = device_seen s k })) e

    pub interface_bound : {k : ℕ} → first (λ d. lists_as bit id d.interfaces) (cores_of s.control) ≡ some k → k < device_count s.control
    interface_bound {k} e = (models.device-passes s.control (λ d. lists_as bit id d.interfaces) k e).within

    pub no_interface : first (λ d. lists_as bit id d.interfaces) (cores_of s.control) ≡ none → device_for_interface bit id (view (session s)) ≡ none
    unfolding map_option
    no_interface e = interface-found bit id ∙ ap (map_option (λ k. record { slot = k; device = device_seen s k })) e

-- ---- when two stores show the same

pub session_of : (c : List ℕ) (rows : ℕ → Row) (t : List ℕ) {n : Connection} {ds : List (Device Load)} {rs : List (Queued Load)} → connection_of c ≡ n
    → tab (device_count c) (device_in c rows t) ≡ ds → queue_in c rows t ≡ rs → session_in c rows t ≡ record { connection = n; devices = ds; requests = rs }
unfolding session_in
session_of c rows t n d q = λ x. record { connection = n x; devices = d x; requests = q x }

-- c, rows and t: the control words, rows and texts before; e, later and u: those after
module _ (c e : List ℕ) (rows later : ℕ → Row) (t u : List ℕ) where
  -- the device in slot i is now the one that was in slot j
  pub device_ext : (i j : ℕ) → core_at e i ≡ core_at c j
      → ((m : ℕ) → m < (core_at c j).pending → item_at u (later (pending_row i m)) ≡ item_at t (rows (pending_row j m)))
      → device_in e later u i ≡ device_in c rows t j
  unfolding device_in
  device_ext i j q h =
      let n : (core_at e i).pending ≡ (core_at c j).pending = ap (λ (d : Core). d.pending) q in
      let p = tab_same (core_at e i).pending (core_at c j).pending (λ m. item_at u (later (pending_row i m))) (λ m. item_at t (rows (pending_row j m))) n (λ m l. h m (omega arith)) in
      λ x. record { id = (q x).id; seat = (q x).seat; interfaces = (q x).interfaces; down_touch_ids = (q x).down_touch_ids; pending = p x }

  pub queue_ext : queue_head e ≡ queue_head c → queue_length e ≡ queue_length c
      → ((m : ℕ) → m < queue_length c → request_at u (later (queue_row (queue_head c) m)) ≡ request_at t (rows (queue_row (queue_head c) m)))
      → queue_in e later u ≡ queue_in c rows t
  unfolding queue_in
  queue_ext head queued h =
      tab_same (queue_length e) (queue_length c) (λ m. request_at u (later (queue_row (queue_head e) m))) (λ m. request_at t (rows (queue_row (queue_head c) m))) queued
      (λ m l. ap (λ (x : ℕ). request_at u (later (queue_row x m))) head ∙ h m (omega arith))

  pub session_ext : connection_of e ≡ connection_of c → device_count e ≡ device_count c
      → ((k : ℕ) → k < device_count c → device_in e later u k ≡ device_in c rows t k) → queue_in e later u ≡ queue_in c rows t
      → session_in e later u ≡ session_in c rows t
  unfolding session_in
  session_ext n count h q =
      session_of e later u n (tab_same (device_count e) (device_count c) (device_in e later u) (device_in c rows t) count (λ k l. h k (omega arith))) q
