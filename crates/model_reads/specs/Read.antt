-- A WHOLE READ HANDED OVER: "a lent list of request records, with one lent slice for their texts, and a `now` for all". Assumes nothing.
use Prim.Native.Nat.{ℕ, suc, ◌-◌}
use Rattle.std.proofs.Math.Bool.{cond}
use mathlib.Core.List.{List, [], ◌∷◌, ◌++◌}
use Rattle.std.proofs.Math.ListN.{length}
use Rattle.model.specs.Call.{Sight, Input, Load, Call, sight, map_call, load_of}
use Rattle.model.specs.Session.{Session}
use Rattle.model.specs.Plan.{Sent, Result, records}
use Rattle.model.specs.Step.{Step, refuses, unchanged, step}

-- A record of the list: its request, or "A record with text whose part leaves the text slice". `A` is what a request is: a `Call Input` as it comes
pub data Entry (A : Type 0) : Type 0 where
  bad_part : Entry A
  request : A → Entry A

-- a request with the payload set apart from all that a decision may see
pub record Loaded (P : Type 0) : Type 0 where
  pub call : Call Sight
  pub load : P

unfoldable pub loaded : Call Input → Loaded Load
unfolding map_call sight load_of
loaded c = record { call = map_call sight c; load = load_of c }

unfoldable pub map_entry : {A B : Type 0} → (A → B) → Entry A → Entry B
map_entry f Entry.bad_part = Entry.bad_part
map_entry f (Entry.request r) = Entry.request (f r)

-- "the session, the number accepted (ignored ones included), the number of event bytes these wrote, and the first refusal if there was one": the events
-- have the bytes, and the outcome is `accepted` where no record was refused
pub record Read (P : Type 0) : Type 0 where
  pub session : Session P
  pub accepted : ℕ
  pub events : List Sent
  pub outcome : Result

module _ {P : Type 0} where
  -- One record with what is left of `out`. "refused before it is tried. (New: 22 BAD_PART ..)"
  unfoldable pub tried : Entry (Loaded P) → (now room : ℕ) → Session P → Step P
  unfolding unchanged step
  tried Entry.bad_part now room s = unchanged s (Result.refused 22)
  tried (Entry.request r) now room s = step (record { call = r.call; load = r.load; now = now; room = room }) s

  -- what the first record comes to, and what the others do: "nothing after that is tried", "Events are written one after another"
  unfoldable pub before : Step P → Read P → Read P
  unfolding refuses
  before first others =
      cond (refuses first.outcome)
      (record { session = first.session; accepted = 0; events = first.events; outcome = first.outcome })
      (record {
        session = others.session;
        accepted = suc others.accepted;
        events = first.events ++ others.events;
        outcome = others.outcome;
      })

  -- "Session, bytes and outcomes equal those of the requests tried, handed in singly, each with what is left of `out`."
  unfoldable pub handed_over : List (Entry (Loaded P)) → (now room : ℕ) → Session P → Read P
  unfolding before tried records
  handed_over [] now room s = record { session = s; accepted = 0; events = []; outcome = Result.accepted }
  handed_over (e ∷ es) now room s =
      let first = tried e now room s in before first (handed_over es now (room - length (records first.events)) first.session)
