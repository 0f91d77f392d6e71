-- Demand 3, "Two sessions side by side": its words as definitions, and its two statements. Assumes nothing.
use Rattle.std.specs.Prelude.{ℕ, ◌<◌, ◌≡◌, Bool, true, false, ◌&&◌, ◌||◌, not, cond, List, [], ◌∷◌, ◌++◌, map, eqb, length, get_or}
use Rattle.std.proofs.Math.Option.{Option, none, some}
use Rattle.eiproto.specs.Capability.{capability_index}
use Rattle.wire.specs.Bits.{Field}
use Rattle.wire.specs.Record.{layout}
use Rattle.touches.specs.Touches.{member}
use Rattle.model.specs.Call.{Sight, Input, Load, Call, Turn, Split, sight, load, map_call, split}
use Rattle.model.specs.Session.{Item, Queued, Session, View, fresh, map_queued, blank, view}
use Rattle.model.specs.Edit.{item}
use Rattle.model.specs.Plan.{Sent, Result, records}
use Rattle.model.specs.Decide.{Found, Rule, handler, device_for_interface}
use Rattle.model.specs.Step.{Step, refuses, step, run}

-- ---- equality

-- a call without its payload
unfoldable pub unloaded : Turn → Split (Unit {0})
unfolding map_call sight
unloaded t = record { call = map_call sight t.call; load = tt; now = t.now; room = t.room }

-- "Equally placed calls are the same, with equal handles, object and touch ids, `now` and every other argument but payload; .. Of `out` and
-- the text buffer of `next_request`, only the lengths need agree." (Of two texts, `sight` keeps the length and whether they are UTF-8)
unfoldable pub Alike : List Turn → List Turn → Type 0
unfolding unloaded
Alike ts ts' = map unloaded ts ≡ map unloaded ts'

-- "Equal at each place: the outcome, payload aside, with a refusal's number and details; the count of event bytes and those bytes in `out`;
-- the last serial; a station call's answer; what `next_request` gives, payload aside, and its text's length."
pub record Observed : Type 0 where
  pub outcome : Result
  pub count : ℕ
  pub bytes : List ℕ
  pub last_serial : ℕ
  pub given : List (Queued (Unit {0}))

unfoldable pub observed : {P : Type 0} → Step P → Observed
unfolding records map_queued blank
observed r =
    record {
      outcome = r.outcome;
      count = length (records r.events);
      bytes = records r.events;
      last_serial = r.session.connection.last_serial;
      given = map (map_queued blank) r.gave;
    }

-- the trail of a list of calls from a fresh session: its connection's id, first serial, next id and negotiated versions
unfoldable pub trail : (connection serial next_id : ℕ) (versions : List (Option ℕ)) → List Turn → List (Step Load)
unfolding run split fresh
trail c s n vs ts = run (map split ts) (fresh c s n vs)

-- DEMAND 3, FIRST HALF. "For every two lists of calls alike in all but payload, everything observable but payload is equal"
unfoldable pub EqualTrails : Type 0
unfolding Alike observed trail
EqualTrails =
    (c s n : ℕ) (vs : List (Option ℕ)) (ts ts' : List Turn) → Alike ts ts' → map observed (trail c s n vs ts) ≡ map observed (trail c s n vs ts')

-- ---- provenance

-- an interface, and the device whose `add_device` made it
pub record MadeInterface : Type 0 where
  pub interface : ℕ
  pub device : ℕ

-- a record of kind 8 says an interface's id in its first field
unfoldable pub interface_ids : List Field → List ℕ
interface_ids [] = []
interface_ids (f ∷ fs) = f.value ∷ []

unfoldable pub made_on : (device : ℕ) → List Sent → List MadeInterface
unfolding layout interface_ids
made_on d [] = []
made_on d (e ∷ es) =
    cond (eqb (layout e.event).kind 8) (map (λ i. record { interface = i; device = d }) (interface_ids (layout e.event).fields)) [] ++ made_on d es

-- what a call made, told from its answer: a device's id, and the interface events that came with it
unfoldable pub made : Result → List Sent → List MadeInterface
unfolding made_on
made Result.accepted es = []
made (Result.refused n) es = []
made (Result.refused_version i v) es = []
made (Result.seat id) es = []
made (Result.device id) es = made_on id es
made (Result.value n) es = []
made (Result.truth b) es = []
made Result.none es = []
made Result.given es = []

-- whether an interface is one that a device's `add_device` made
unfoldable pub made_for : (interface device : ℕ) → List MadeInterface → Bool
made_for i d [] = false
made_for i d (m ∷ ms) = (eqb m.interface i && eqb m.device d) || made_for i d ms

unfoldable pub wants_held : Rule → Bool
wants_held Rule.queued = false
wants_held Rule.down = false
wants_held Rule.motion = true
wants_held Rule.up = true
wants_held Rule.cancel = true
wants_held Rule.utf8 = false

unfoldable pub ignored_on : Option Found → Sight → Bool
unfolding wants_held handler member
ignored_on none s = true
ignored_on (some f) s = wants_held (handler s.kind).rule && not (member s.touch f.device.down_touch_ids)

-- "ignored are those that Requests says do nothing": on an unknown interface; "Touch Motion, Up and Cancel for an id not held"
unfoldable pub ignored : View → (interface : ℕ) → Sight → Bool
unfolding ignored_on device_for_interface handler
ignored v i s = ignored_on (device_for_interface (capability_index (handler s.kind).capability) i v) s

-- "A timed request is taken when demand 2's definitions, run over the calls alone, neither refuse nor ignore it .. It belongs to the device whose
-- `add_device` made its interface."
unfoldable pub taken_of : (device : ℕ) → List MadeInterface → View → Result → Call Input → List (Item Load)
unfolding ignored refuses made_for item sight load
taken_of d ms v o (Call.plain c) = []
taken_of d ms v o (Call.timed i ver a) =
    cond (not (refuses o) && (not (ignored v i (sight a)) && made_for i d ms)) (item (sight a) (load a) ∷ []) []

unfoldable pub taken_from : (device : ℕ) → List MadeInterface → Session Load → List Turn → List (Item Load)
unfolding taken_of made step split view
taken_from d ms s [] = []
taken_from d ms s (t ∷ ts) =
    let r = step (split t) s in
    taken_of d ms (view s) r.outcome t.call ++ taken_from d (ms ++ made r.outcome r.events) r.session ts

-- the timed requests taken on a device, in order
unfoldable pub taken : (connection serial next_id : ℕ) (versions : List (Option ℕ)) (device : ℕ) → List Turn → List (Item Load)
unfolding taken_from fresh
taken c s n vs d ts = taken_from d [] (fresh c s n vs) ts

-- the timed requests of a device among some requests
unfoldable pub items_of : {P : Type 0} → (device : ℕ) → List (Queued P) → List (Item P)
items_of d [] = []
items_of d (Queued.timed e t i ∷ rs) = cond (eqb e d) (i ∷ []) [] ++ items_of d rs
items_of d (Queued.untimed r ∷ rs) = items_of d rs

-- what a trail's `next_request` gave, and of it the timed requests of a device
unfoldable pub delivered : {P : Type 0} → List (Step P) → List (Queued P)
delivered [] = []
delivered (r ∷ rs) = r.gave ++ delivered rs

unfoldable pub given : {P : Type 0} → (device : ℕ) → List (Step P) → List (Item P)
unfolding items_of delivered
given d rs = items_of d (delivered rs)

-- DEMAND 3, SECOND HALF. "The n-th timed request that `next_request` gives for a device came from the n-th taken on that device", in kind, touch
-- id, length and payload: `left` is what is not given (yet)
unfoldable pub InOrder : Type 0
unfolding taken given trail
InOrder =
    (c s n : ℕ) (vs : List (Option ℕ)) (ts : List Turn) (d : ℕ) → (left : List (Item Load)) × (taken c s n vs d ts ≡ given d (trail c s n vs ts) ++ left)

unfoldable pub Nth : Type 0
unfolding taken given trail
Nth =
    (c s n : ℕ) (vs : List (Option ℕ)) (ts : List Turn) (d i : ℕ) (x : Item Load) →
    i < length (given d (trail c s n vs ts)) → get_or (given d (trail c s n vs ts)) i x ≡ get_or (taken c s n vs d ts) i x
