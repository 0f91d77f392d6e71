-- Which numbers a call may be refused with: those of the plans, leaf by leaf, and those of the limits. Assumes nothing.
use Prim.Native.Nat.{ℕ}
use mathlib.Core.Path.{◌≡◌, refl}
use mathlib.Core.Bool.{Bool, true, false, cond}
use lib.Dec.{ltb}
use Rattle.model.specs.Call.{Sight, Load, Call}
use Rattle.model.specs.Session.{Session, View, view}
use Rattle.model.specs.Plan.{Result, refusal, Plan, answer, ignore, edit, send}
use Rattle.model.specs.Decide.{send_next, pend_after, send_destroyed}
use Rattle.model.specs.Step.{Step, carried_out, source, Counts, counts, over, any_over, refuse_if, limits, refuses, unchanged, settled, bytes_needed, limited, step}
use Rattle.model.specs.Refusals.{of_session, OwnRefusals}
use Rattle.model.proofs.Leaves.{modest, Leaf}
use Rattle.model.proofs.Walk.{walk}

Own : Result → Type 0
unfolding refusal
Own o = of_session (refusal o) ≡ true

modest_own : (o : Result) → modest o ≡ true → Own o
unfolding Own modest refusal
modest_own Result.accepted h = refl
modest_own (Result.refused n) h = h
modest_own (Result.refused_version i v) h = refl
modest_own (Result.seat id) h = refl
modest_own (Result.device id) h = refl
modest_own (Result.value n) h = refl
modest_own (Result.truth b) h = refl
modest_own Result.none h = refl
modest_own Result.given h = refl

leaf_own : {v : View} {now : ℕ} {c : Call Sight} {plan : Plan} → Leaf v now c plan → Own plan.outcome
unfolding Own answer ignore pend_after edit send send_next send_destroyed refusal
leaf_own (Leaf.turned o h m) = modest_own o m
leaf_own (Leaf.passed h) = refl
leaf_own (Leaf.pended f amends e g t) = refl
leaf_own (Leaf.answered o m) = modest_own o m
leaf_own (Leaf.synced callback) = refl
leaf_own (Leaf.synced_message callback) = refl
leaf_own (Leaf.noted object event edits m h) = refl
leaf_own (Leaf.released cap id f e) = refl
leaf_own (Leaf.device_gone id f r e) = refl
leaf_own (Leaf.seat_gone id x r e) = refl
leaf_own (Leaf.all_gone reason explanation r) = refl
leaf_own (Leaf.queued u n) = refl
leaf_own (Leaf.flushed id f u n k e) = refl
leaf_own (Leaf.closed id serial time f k e) = refl
leaf_own Leaf.handed = refl
leaf_own (Leaf.new_seat name caps) = refl
leaf_own (Leaf.new_device seat name type both) = refl

refuse_if_own : (b : Bool) (n : ℕ) (x : Result) → of_session n ≡ true → Own x → Own (refuse_if b n x)
unfolding Own refuse_if refusal
refuse_if_own true n x h e = h
refuse_if_own false n x h e = e

limits_own : (room bytes : ℕ) (n m : Counts) (o : Result) → Own o → Own (limits room bytes n m o)
unfolding limits
limits_own room bytes n m o h =
    refuse_if_own (over 4 n.seats m.seats) 14 _ refl
    (refuse_if_own (over 8 n.devices m.devices) 15 _ refl
    (refuse_if_own (any_over 64 n.pending m.pending) 16 _ refl
    (refuse_if_own (over 256 n.queued m.queued) 17 _ refl
    (refuse_if_own (over 32 n.texts m.texts) 18 _ refl
    (refuse_if_own (over 0xffff_ffff_ffff_ffff n.next_id m.next_id) 20 _ refl
    (refuse_if_own (ltb room bytes) 19 o refl h))))))

settled_own : (s : Session Load) (r : Step Load) (o : Result) → Own o → Own (settled s r o).outcome
unfolding settled unchanged
settled_own s r o h = go (refuses o)
  where
    go : (b : Bool) → Own (cond b (unchanged s o) (record { session = r.session; outcome = o; events = r.events; gave = r.gave })).outcome
    go true = h
    go false = h

limited_own : (room : ℕ) (s : Session Load) (r : Step Load) → Own r.outcome → Own (limited room s r).outcome
unfolding limited
limited_own room s r h = settled_own s r _ (go (refuses r.outcome))
  where
    go : (b : Bool) → Own (cond b r.outcome (limits room (bytes_needed r) (counts s) (counts r.session) r.outcome))
    go true = h
    go false = limits_own room (bytes_needed r) (counts s) (counts r.session) r.outcome h

pub own_refusals : OwnRefusals
unfolding OwnRefusals Own step source carried_out
own_refusals t s = limited_own t.room s (source t s) (leaf_own (walk (view s) t.now t.call))
