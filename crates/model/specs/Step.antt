-- A call under the limits, and lists of calls. Assumes nothing.
use Rattle.std.specs.Prelude.{ℕ, ◌+◌, Bool, true, false, ◌&&◌, ◌||◌, ltb}
use Rattle.std.proofs.Math.Bool.{cond}
use mathlib.Core.List.{List, [], ◌∷◌, ◌++◌, map}
use Rattle.std.proofs.Math.ListN.{length}
use Rattle.model.specs.Call.{Kind, Split}
use Rattle.model.specs.Session.{Item, Queued, Device, Session, view}
use Rattle.model.specs.Edit.{Edit, enact, enact_all}
use Rattle.model.specs.Plan.{Sent, records, Result, refusal, Plan}
use Rattle.model.specs.Decide.{Rule, handler, decide}

-- what a call comes to: the session after it, the answer, the events in turn, and the request that it gave, if any
pub record Step (P : Type 0) : Type 0 where
  pub session : Session P
  pub outcome : Result
  pub events : List Sent
  pub gave : List (Queued P)

module _ {P : Type 0} where
  unfoldable pub oldest : List (Queued P) → List (Queued P)
  oldest [] = []
  oldest (r ∷ rs) = r ∷ []

  -- what an edit gives
  unfoldable pub gave : Edit → Session P → List (Queued P)
  unfolding oldest
  gave (Edit.raise n) s = []
  gave (Edit.add_seat caps) s = []
  gave (Edit.remove_seat seat) s = []
  gave (Edit.add_device seat caps) s = []
  gave (Edit.remove_device k) s = []
  gave (Edit.remove_devices_of seat) s = []
  gave (Edit.amend k a) s = []
  gave (Edit.pend k sight) s = []
  gave (Edit.frame k serial time) s = []
  gave (Edit.queue r) s = []
  gave Edit.deliver s = oldest s.requests
  gave (Edit.peer_object id) s = []
  gave Edit.end_connection s = []

  unfoldable pub gave_all : List Edit → P → Session P → List (Queued P)
  unfolding gave enact
  gave_all [] p s = []
  gave_all (e ∷ es) p s = gave e s ++ gave_all es p (enact e p s)

  -- a plan carried out, with no limits
  unfoldable pub carried_out : Plan → P → Session P → Step P
  unfolding enact_all gave_all
  carried_out plan p s =
      record {
        session = enact_all plan.edits p s;
        outcome = plan.outcome;
        events = plan.events;
        gave = gave_all plan.edits p s;
      }

  -- THE SOURCE: what the crate does at a call, with no limits. (10 to 13, which ask only of the call and of what it names, are tested too)
  unfoldable pub source : Split P → Session P → Step P
  unfolding carried_out decide view
  source t s = carried_out (decide (view s) t.now t.call) t.load s

-- ---- the limits

-- 1 for a text, 0 for any other kind
unfoldable pub texts_by : Rule → ℕ
texts_by Rule.queued = 0
texts_by Rule.down = 0
texts_by Rule.motion = 0
texts_by Rule.up = 0
texts_by Rule.cancel = 0
texts_by Rule.utf8 = 1

unfoldable pub texts : Kind → ℕ
unfolding texts_by handler
texts k = texts_by (handler k).rule

module _ {P : Type 0} where
  unfoldable pub pending_texts : List (Item P) → ℕ
  unfolding texts
  pending_texts [] = 0
  pending_texts (i ∷ is) = texts i.kind + pending_texts is

  unfoldable pub devices_texts : List (Device P) → ℕ
  unfolding pending_texts
  devices_texts [] = 0
  devices_texts (d ∷ ds) = pending_texts d.pending + devices_texts ds

  unfoldable pub queued_texts : List (Queued P) → ℕ
  unfolding texts
  queued_texts [] = 0
  queued_texts (Queued.timed d t i ∷ rs) = texts i.kind + queued_texts rs
  queued_texts (Queued.untimed r ∷ rs) = queued_texts rs

  -- the bytes of text among given requests
  unfoldable pub text_bytes : List (Queued P) → ℕ
  text_bytes [] = 0
  text_bytes (Queued.timed d t i ∷ rs) = i.size + text_bytes rs
  text_bytes (Queued.untimed r ∷ rs) = text_bytes rs

-- the things counted
pub record Counts : Type 0 where
  pub seats : ℕ
  pub devices : ℕ
  -- of each device
  pub pending : List ℕ
  pub queued : ℕ
  -- "pending and queued together"
  pub texts : ℕ
  pub next_id : ℕ

unfoldable pub counts : {P : Type 0} → Session P → Counts
unfolding devices_texts queued_texts
counts s =
    record {
      seats = length s.connection.seats;
      devices = length s.devices;
      pending = map (λ d. length d.pending) s.devices;
      queued = length s.requests;
      texts = devices_texts s.devices + queued_texts s.requests;
      next_id = s.connection.next_id;
    }

-- more than the limit, and more than before: only a call that adds to what is counted is refused
unfoldable pub over : (limit before after : ℕ) → Bool
over limit before after = ltb limit after && ltb before after

-- of some device
unfoldable pub any_over : (limit : ℕ) (before after : List ℕ) → Bool
unfolding over
any_over limit [] after = false
any_over limit (n ∷ ns) [] = false
any_over limit (n ∷ ns) (m ∷ ms) = over limit n m || any_over limit ns ms

unfoldable pub refuse_if : Bool → ℕ → Result → Result
refuse_if true number other = Result.refused number
refuse_if false number other = other

-- "14 to 18 by number; 20; 19": the first that applies, from what stood before and what would stand after, the room lent and the bytes that
-- would be written to it; else the outcome itself
unfoldable pub limits : (room bytes : ℕ) → (before after : Counts) → Result → Result
unfolding refuse_if over any_over
limits room bytes n m outcome =
    refuse_if (over 4 n.seats m.seats) 14
    (refuse_if (over 8 n.devices m.devices) 15
    (refuse_if (any_over 64 n.pending m.pending) 16
    (refuse_if (over 256 n.queued m.queued) 17
    (refuse_if (over 32 n.texts m.texts) 18
    (refuse_if (over 0xffff_ffff_ffff_ffff n.next_id m.next_id) 20
    (refuse_if (ltb room bytes) 19 outcome))))))

unfoldable pub refuses : Result → Bool
unfolding refusal
refuses o = ltb 0 (refusal o)

module _ {P : Type 0} where
  -- a refusal "returns the session unchanged, writes nothing"
  unfoldable pub unchanged : Session P → Result → Step P
  unchanged s outcome = record { session = s; outcome = outcome; events = []; gave = [] }

  -- what was to come of a call, once its outcome is known
  unfoldable pub settled : Session P → Step P → Result → Step P
  unfolding refuses unchanged
  settled s r outcome =
      cond (refuses outcome) (unchanged s outcome) (record { session = r.session; outcome = outcome; events = r.events; gave = r.gave })

  -- "what would be written": to `out` the events, to the text buffer the text of the request given
  unfoldable pub bytes_needed : Step P → ℕ
  unfolding records text_bytes
  bytes_needed r = length (records r.events) + text_bytes r.gave

  -- the limits stand after 1 to 13 and after what the source refuses
  unfoldable pub limited : (room : ℕ) → Session P → Step P → Step P
  unfolding settled refuses limits bytes_needed counts
  limited room s r =
      settled s r (cond (refuses r.outcome) r.outcome (limits room (bytes_needed r) (counts s) (counts r.session) r.outcome))

  -- ONE CALL
  unfoldable pub step : Split P → Session P → Step P
  unfolding limited source
  step t s = limited t.room s (source t s)

  -- A LIST OF CALLS: "each call gets the session the one before returned, and nobody else changes it"
  unfoldable pub run : List (Split P) → Session P → List (Step P)
  unfolding step
  run [] s = []
  run (t ∷ ts) s = step t s ∷ run ts (step t s).session
