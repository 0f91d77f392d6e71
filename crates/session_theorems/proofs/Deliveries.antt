-- No call but `next_request` gives a request: a step whose outcome is not `given` gave nothing. By the plans that `decide` can make. And `next_request` writes
-- no event. Assumes nothing.
use Prim.Native.Nat.{ℕ}
use mathlib.Core.Path.{◌≡◌, refl, sym, ap, ◌∙◌}
use mathlib.Core.Bool.{Bool, true, false, cond, true≢false}
use mathlib.Core.List.{List, [], ◌∷◌}
use mathlib.Core.Logic.{◌⊎◌, inl, inr}
use lib.Dec.{ltb}
use Rattle.model.specs.Call.{Sight, Plain, Call, Split}
use Rattle.model.specs.Session.{Seat, Queued, Session, View, view}
use Rattle.model.specs.Edit.{Amend, Edit, enact}
use Rattle.model.specs.Plan.{Sent, Result, refusal, Plan, answer, ignore, edit, send}
use Rattle.model.specs.Decide.{Found, send_next, pend_after, send_destroyed, remove_seats, next_of, decide_plain, decide}
use Rattle.model.specs.Step.{Step, gave, gave_all, carried_out, source, Counts, counts, over, any_over, refuse_if, limits, refuses, unchanged, settled, bytes_needed, limited, step}
use Rattle.model.proofs.Leaves.{Noted, Leaf}
use Rattle.model.proofs.Walk.{walk}

-- whether an edit of the list delivers a request
unfoldable delivers : List Edit → Bool
delivers [] = false
delivers (Edit.raise n ∷ es) = delivers es
delivers (Edit.add_seat caps ∷ es) = delivers es
delivers (Edit.remove_seat seat ∷ es) = delivers es
delivers (Edit.add_device seat caps ∷ es) = delivers es
delivers (Edit.remove_device k ∷ es) = delivers es
delivers (Edit.remove_devices_of seat ∷ es) = delivers es
delivers (Edit.amend k a ∷ es) = delivers es
delivers (Edit.pend k i ∷ es) = delivers es
delivers (Edit.frame k serial time ∷ es) = delivers es
delivers (Edit.queue r ∷ es) = delivers es
delivers (Edit.deliver ∷ es) = true
delivers (Edit.peer_object id ∷ es) = delivers es
delivers (Edit.end_connection ∷ es) = delivers es

unfoldable pub is_given : Result → Bool
is_given Result.accepted = false
is_given (Result.refused n) = false
is_given (Result.refused_version i v) = false
is_given (Result.seat id) = false
is_given (Result.device id) = false
is_given (Result.value n) = false
is_given (Result.truth b) = false
is_given Result.none = false
is_given Result.given = true

-- a plan that delivers says so
data Tells : Plan → Type 0 where
  silent : (o : Result) (events : List Sent) (edits : List Edit) → delivers edits ≡ false → Tells (record { outcome = o; events = events; edits = edits })
  gives : (events : List Sent) (edits : List Edit) → Tells (record { outcome = Result.given; events = events; edits = edits })

pend-silent : (amends : List Amend) (f : Found) (i : Sight) → delivers (pend_after amends f i).edits ≡ false
unfolding pend_after delivers
pend-silent [] f i = refl
pend-silent (a ∷ more) f i = pend-silent more f i

remove_seats-silent : (ss : List Seat) → delivers (remove_seats ss) ≡ false
unfolding remove_seats delivers
remove_seats-silent [] = refl
remove_seats-silent (s ∷ ss) = remove_seats-silent ss

noted-silent : {edits : List Edit} → Noted edits → delivers edits ≡ false
unfolding delivers
noted-silent Noted.nothing = refl
noted-silent (Noted.clears k) = refl

leaf_tells : {v : View} {now : ℕ} {c : Call Sight} {plan : Plan} → Leaf v now c plan → Tells plan
unfolding answer ignore pend_after edit send send_next send_destroyed delivers
leaf_tells (Leaf.turned o h m) = Tells.silent o [] [] refl
leaf_tells (Leaf.passed h) = Tells.silent Result.accepted [] [] refl
leaf_tells (Leaf.pended {x = x} f amends e g t) = Tells.silent Result.accepted [] _ (pend-silent amends f x)
leaf_tells (Leaf.answered o m) = Tells.silent o [] [] refl
leaf_tells (Leaf.synced callback) = Tells.silent _ _ _ refl
leaf_tells (Leaf.synced_message callback) = Tells.silent _ _ _ refl
leaf_tells (Leaf.noted object event edits m h) = Tells.silent _ _ _ (noted-silent h)
leaf_tells (Leaf.released cap id f e) = Tells.silent _ _ _ refl
leaf_tells (Leaf.device_gone id f r e) = Tells.silent _ _ _ refl
leaf_tells (Leaf.seat_gone id x r e) = Tells.silent _ _ _ refl
leaf_tells {v = v} (Leaf.all_gone reason explanation r) = Tells.silent _ _ _ (remove_seats-silent v.connection.seats)
leaf_tells (Leaf.queued u n) = Tells.silent _ _ _ refl
leaf_tells (Leaf.flushed id f u n k e) = Tells.silent _ _ _ refl
leaf_tells (Leaf.closed id serial time f k e) = Tells.silent _ _ _ refl
leaf_tells Leaf.handed = Tells.gives [] _
leaf_tells (Leaf.new_seat name caps) = Tells.silent _ _ _ refl
leaf_tells (Leaf.new_device seat name type both) = Tells.silent _ _ _ refl

decide_tells : (v : View) (now : ℕ) (c : Call Sight) → Tells (decide v now c)
decide_tells v now c = leaf_tells (walk v now c)

next-silent : (rs : List (Queued (Unit {0}))) → (next_of rs).events ≡ []
unfolding next_of answer
next-silent [] = refl
next-silent (r ∷ rs) = refl

pub asked-silent : (v : View) (now : ℕ) → (decide v now (Call.plain Plain.next_request)).events ≡ []
unfolding decide decide_plain
asked-silent v now = next-silent v.requests

-- ---- the step

either : (b : Bool) (n : ℕ) (x : Result) → ltb 0 n ≡ true → (refuses x ≡ true) ⊎ (x ≡ Result.given)
    → (refuses (refuse_if b n x) ≡ true) ⊎ (refuse_if b n x ≡ Result.given)
unfolding refuse_if refuses refusal
either true n x h e = inl h
either false n x h e = e

limits-given : (room bytes : ℕ) (n m : Counts) → (refuses (limits room bytes n m Result.given) ≡ true) ⊎ (limits room bytes n m Result.given ≡ Result.given)
unfolding limits
limits-given room bytes n m =
    either (over 4 n.seats m.seats) 14 _ refl
    (either (over 8 n.devices m.devices) 15 _ refl
    (either (any_over 64 n.pending m.pending) 16 _ refl
    (either (over 256 n.queued m.queued) 17 _ refl
    (either (over 32 n.texts m.texts) 18 _ refl
    (either (over 0xffff_ffff_ffff_ffff n.next_id m.next_id) 20 _ refl
    (either (ltb room bytes) 19 Result.given refl (inr refl)))))))

module _ {P : Type 0} where
  silent-gave : (es : List Edit) (p : P) (s : Session P) → delivers es ≡ false → gave_all es p s ≡ []
  unfolding delivers gave_all gave
  silent-gave [] p s h = refl
  silent-gave (Edit.raise n ∷ es) p s h = silent-gave es p (enact (Edit.raise n) p s) h
  silent-gave (Edit.add_seat caps ∷ es) p s h = silent-gave es p (enact (Edit.add_seat caps) p s) h
  silent-gave (Edit.remove_seat seat ∷ es) p s h = silent-gave es p (enact (Edit.remove_seat seat) p s) h
  silent-gave (Edit.add_device seat caps ∷ es) p s h = silent-gave es p (enact (Edit.add_device seat caps) p s) h
  silent-gave (Edit.remove_device k ∷ es) p s h = silent-gave es p (enact (Edit.remove_device k) p s) h
  silent-gave (Edit.remove_devices_of seat ∷ es) p s h = silent-gave es p (enact (Edit.remove_devices_of seat) p s) h
  silent-gave (Edit.amend k a ∷ es) p s h = silent-gave es p (enact (Edit.amend k a) p s) h
  silent-gave (Edit.pend k i ∷ es) p s h = silent-gave es p (enact (Edit.pend k i) p s) h
  silent-gave (Edit.frame k serial time ∷ es) p s h = silent-gave es p (enact (Edit.frame k serial time) p s) h
  silent-gave (Edit.queue r ∷ es) p s h = silent-gave es p (enact (Edit.queue r) p s) h
  silent-gave (Edit.deliver ∷ es) p s h = absurd (true≢false h)
  silent-gave (Edit.peer_object id ∷ es) p s h = silent-gave es p (enact (Edit.peer_object id) p s) h
  silent-gave (Edit.end_connection ∷ es) p s h = silent-gave es p (enact Edit.end_connection p s) h

  plan-gave : (plan : Plan) (p : P) (s : Session P) → Tells plan → ((carried_out plan p s).gave ≡ []) ⊎ (plan.outcome ≡ Result.given)
  unfolding carried_out
  plan-gave plan p s (Tells.silent o events edits h) = inl (silent-gave edits p s h)
  plan-gave plan p s (Tells.gives events edits) = inr refl

  -- what is settled with nothing to give gives nothing; what is to be given is given, or the call is refused
  settled-none : (s : Session P) (r : Step P) (o : Result) → r.gave ≡ [] → (settled s r o).gave ≡ []
  unfolding settled unchanged
  settled-none s r o e = go (refuses o)
    where
      go : (b : Bool) → (cond b (unchanged s o) (record { session = r.session; outcome = o; events = r.events; gave = r.gave })).gave ≡ []
      go true = refl
      go false = e

  settled-given : (s : Session P) (r : Step P) (o : Result) → (refuses o ≡ true) ⊎ (o ≡ Result.given) → is_given (settled s r o).outcome ≡ false → (settled s r o).gave ≡ []
  unfolding settled unchanged is_given refuses refusal
  settled-given s r o (inl e) h = rw e
  settled-given s r o (inr e) h = absurd (true≢false (sym (ap (λ (x : Result). is_given (settled s r x).outcome) e) ∙ h))

  limited-gave : (room : ℕ) (s : Session P) (r : Step P) → (r.gave ≡ []) ⊎ (r.outcome ≡ Result.given) → is_given (limited room s r).outcome ≡ false → (limited room s r).gave ≡ []
  unfolding limited refuses refusal
  limited-gave room s r (inl e) h = settled-none s r (cond (refuses r.outcome) r.outcome (limits room (bytes_needed r) (counts s) (counts r.session) r.outcome)) e
  limited-gave room s r (inr e) h =
      settled-given s r (cond (refuses r.outcome) r.outcome (limits room (bytes_needed r) (counts s) (counts r.session) r.outcome))
      (rw e (limits-given room (bytes_needed r) (counts s) (counts r.session))) h

  -- a plan that sends nothing writes nothing
  settled-quiet : (s : Session P) (r : Step P) (o : Result) → r.events ≡ [] → (settled s r o).events ≡ []
  unfolding settled unchanged
  settled-quiet s r o h = go (refuses o)
    where
      go : (b : Bool) → (cond b (unchanged s o) (record { session = r.session; outcome = o; events = r.events; gave = r.gave })).events ≡ []
      go true = refl
      go false = h

  limited-quiet : (room : ℕ) (s : Session P) (r : Step P) → r.events ≡ [] → (limited room s r).events ≡ []
  unfolding limited
  limited-quiet room s r = settled-quiet s r (cond (refuses r.outcome) r.outcome (limits room (bytes_needed r) (counts s) (counts r.session) r.outcome))

  pub step-quiet : (t : Split P) (s : Session P) → (decide (view s) t.now t.call).events ≡ [] → (step t s).events ≡ []
  unfolding step source carried_out
  step-quiet t s h = limited-quiet t.room s (source t s) h

  pub step-gave : (t : Split P) (s : Session P) → is_given (step t s).outcome ≡ false → (step t s).gave ≡ []
  unfolding step source
  step-gave t s h = limited-gave t.room s (source t s) (plan-gave (decide (view s) t.now t.call) t.load s (decide_tells (view s) t.now t.call)) h
