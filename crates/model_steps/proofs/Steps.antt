-- What a call comes to, by the plan that is decided and by the tests of its limits: for the code, which then never opens `step`. Assumes nothing.
use Prim.Native.Nat.{ℕ, zero, suc, ◌+◌, ◌≤◌, ◌<◌, suc-le-suc}
use mathlib.Core.Path.{◌≡◌, refl, ap, ◌∙◌}
use mathlib.Core.Logic.{◌⊎◌, inl, inr}
use mathlib.Core.Bool.{Bool, true, false, cond, and-false, or-false}
use mathlib.Core.List.{List, [], ◌∷◌, ◌++◌}
use native.Mathlib.Nat.{le_refl, zero-add, add-zero, le_of_suc-le-suc}
use native.Mathlib.Omega.{arith}
use lib.Dec.{ltb}
use lib.ListN.{length, get_or, length-map}
use borrow.Author.Tests.{lt-ltb, le-ltb}
use Rattle.eiproto.specs.Bits.{bits_of}
use Rattle.model.specs.Call.{Kind, Sight, Split}
use Rattle.model.specs.Session.{Untimed, Queued, Device, Session, view}
use Rattle.model.specs.Edit.{Amend, Edit, enact, enact_all}
use Rattle.model.specs.Plan.{Sent, records, Result, Plan, answer, edit, send}
use Rattle.model.specs.Decide.{Found, Rule, handler, pend_after, seat_plan, device_plan, decide}
use Rattle.model.specs.Step.{Step, gave_all, carried_out, texts_by, texts, text_bytes, Counts, counts, over, any_over, limits, refuses, unchanged, settled, bytes_needed, limited, step}
use Rattle.model.proofs.All.{All, none, more}
use Rattle.model.proofs.Within.{settled-refused, settled-accepted}
use Rattle.model_steps.proofs.Counted.{change, framed_length, framed_length-some, waiting, after_pend, after_frame, after_queue, after_seat, after_device, counts-frame, counts-queue, counts-add_seat, counts-add_device, Lessens, lessens_same, lessens_deliver, removes_all, quiet_all, quiet, pends, removed}

-- ---- the tests

over-less : (l n m : ℕ) → m ≤ n → over l n m ≡ false
unfolding over
over-less l n m h = rw (le-ltb n m h) (and-false (ltb l m))

over_same : (l n : ℕ) → over l n n ≡ false
over_same l n = over-less l n n (le_refl n)

over-fits : (l n m : ℕ) → m ≤ l → over l n m ≡ false
unfolding over
over-fits l n m h = rw (le-ltb l m h)

over-more : (l n m : ℕ) → l < m → n < m → over l n m ≡ true
unfolding over
over-more l n m h k = rw (lt-ltb l m h) (lt-ltb n m k)

any_over_same : (l : ℕ) (ns : List ℕ) → any_over l ns ns ≡ false
unfolding any_over
any_over_same l [] = refl
any_over_same l (n ∷ ns) = rw (over_same l n) (any_over_same l ns)

any_over_new : (l : ℕ) (ns : List ℕ) (m : ℕ) → any_over l ns (ns ++ (m ∷ [])) ≡ false
unfolding any_over
any_over_new l [] m = refl
any_over_new l (n ∷ ns) m = rw (over_same l n) (any_over_new l ns m)

-- where one count changes, it alone is tested
any_over-change : (l : ℕ) (g : ℕ → ℕ) (k : ℕ) (ns : List ℕ) → k < length ns → any_over l ns (change g k ns) ≡ over l (get_or ns k 0) (g (get_or ns k 0))
unfolding any_over change
any_over-change l g k [] h = absurd (omega arith)
any_over-change l g zero (n ∷ ns) h = rw (any_over_same l ns) (or-false (over l n (g n)))
any_over-change l g (suc k) (n ∷ ns) h = rw (over_same l n) (any_over-change l g k ns (le_of_suc-le-suc h))

any_over-emptied : (l k : ℕ) (ns : List ℕ) → any_over l ns (change (λ n. 0) k ns) ≡ false
unfolding any_over change
any_over-emptied l k [] = refl
any_over-emptied l zero (n ∷ ns) = rw (over-less l n 0 (omega arith)) (any_over_same l ns)
any_over-emptied l (suc k) (n ∷ ns) = rw (over_same l n) (any_over-emptied l k ns)

-- where places shift, each is within the limit
any_over-within : (l : ℕ) (ns ms : List ℕ) → All (λ x. x ≤ l) ms → any_over l ns ms ≡ false
unfolding any_over
any_over-within l [] ms a = refl
any_over-within l (n ∷ ns) ms none = refl
any_over-within l (n ∷ ns) ms (more {x = m} {xs = ms'} h a) = rw (over-fits l n m h) (any_over-within l ns ms' a)

-- ---- the limits

-- no limit on what is counted is met
record Fits (n m : Counts) : Type 0 where
  seats : over 4 n.seats m.seats ≡ false
  devices : over 8 n.devices m.devices ≡ false
  pending : any_over 64 n.pending m.pending ≡ false
  queued : over 256 n.queued m.queued ≡ false
  texts : over 32 n.texts m.texts ≡ false
  next_id : over 0xffff_ffff_ffff_ffff n.next_id m.next_id ≡ false

-- where there is no new seat, device, text or id
fits-queued : (n m : Counts) → m.seats ≤ n.seats → m.devices ≤ n.devices → any_over 64 n.pending m.pending ≡ false → over 256 n.queued m.queued ≡ false →
    m.texts ≤ n.texts → m.next_id ≤ n.next_id → Fits n m
fits-queued n m a b c d e f =
    record {
      seats = over-less 4 _ _ a;
      devices = over-less 8 _ _ b;
      pending = c;
      queued = d;
      texts = over-less 32 _ _ e;
      next_id = over-less 0xffff_ffff_ffff_ffff _ _ f;
    }

fits-less : (n m : Counts) → Lessens n m → any_over 64 n.pending m.pending ≡ false → Fits n m
fits-less n m l h = fits-queued n m l.seats l.devices h (over-less 256 _ _ l.queued) l.texts l.next_id

fits_same : (n : Counts) → Fits n n
fits_same n = fits-less n n (lessens_same n) (any_over_same 64 n.pending)

module _ (room bytes : ℕ) (n m : Counts) (o : Result) where
  limits-none : Fits n m → bytes ≤ room → limits room bytes n m o ≡ o
  unfolding limits
  limits-none f h = rw (f.seats, f.devices, f.pending, f.queued, f.texts, f.next_id, le-ltb room bytes h)

  limits-room : Fits n m → room < bytes → limits room bytes n m o ≡ Result.refused 19
  unfolding limits
  limits-room f h = rw (f.seats, f.devices, f.pending, f.queued, f.texts, f.next_id, lt-ltb room bytes h)

  limits-seats : over 4 n.seats m.seats ≡ true → limits room bytes n m o ≡ Result.refused 14
  unfolding limits
  limits-seats h = rw h

  limits-devices : over 4 n.seats m.seats ≡ false → over 8 n.devices m.devices ≡ true → limits room bytes n m o ≡ Result.refused 15
  unfolding limits
  limits-devices a h = rw (a, h)

  -- where neither a seat nor a device is new
  module _ (a : over 4 n.seats m.seats ≡ false) (b : over 8 n.devices m.devices ≡ false) where
    limits-pending : any_over 64 n.pending m.pending ≡ true → limits room bytes n m o ≡ Result.refused 16
    unfolding limits
    limits-pending h = rw (a, b, h)

    limits-queued : any_over 64 n.pending m.pending ≡ false → over 256 n.queued m.queued ≡ true → limits room bytes n m o ≡ Result.refused 17
    unfolding limits
    limits-queued c h = rw (a, b, c, h)

    module _ (c : any_over 64 n.pending m.pending ≡ false) (d : over 256 n.queued m.queued ≡ false) where
      limits-texts : over 32 n.texts m.texts ≡ true → limits room bytes n m o ≡ Result.refused 18
      unfolding limits
      limits-texts h = rw (a, b, c, d, h)

      limits-next_id : over 32 n.texts m.texts ≡ false → over 0xffff_ffff_ffff_ffff n.next_id m.next_id ≡ true → limits room bytes n m o ≡ Result.refused 20
      unfolding limits
      limits-next_id e h = rw (a, b, c, d, e, h)

texts_by_one : (r : Rule) → texts_by r ≤ 1
unfolding texts_by
texts_by_one Rule.queued = omega arith
texts_by_one Rule.down = omega arith
texts_by_one Rule.motion = omega arith
texts_by_one Rule.up = omega arith
texts_by_one Rule.cancel = omega arith
texts_by_one Rule.utf8 = omega arith

texts_fit : (n : ℕ) (k : Kind) → (texts k ≡ 0) ⊎ (n < 32) → over 32 n (n + texts k) ≡ false
unfolding texts
texts_fit n k (inl z) = over-less 32 n (n + texts k) (omega arith)
texts_fit n k (inr h) = over-fits 32 n (n + texts k) (omega (arith, texts_by_one (handler k).rule))

module _ {P : Type 0} where
  all_waiting : (l : ℕ) (ds : List (Device P)) → ((k : ℕ) → k < length ds → get_or (waiting ds) k 0 ≤ l) → All (λ x. x ≤ l) (waiting ds)
  all_waiting l [] h = none
  all_waiting l (d ∷ ds) h = more (h 0 (omega arith)) (all_waiting l ds (λ k i. h (suc k) (suc-le-suc i)))

-- ---- a step by its plan

abbrev pub deliver_plan : Plan
deliver_plan = record { outcome = Result.given; events = []; edits = Edit.deliver ∷ [] }

module _ {P : Type 0} where
  limited-accepted : (room : ℕ) (s : Session P) (r : Step P) → refuses r.outcome ≡ false →
      limited room s r ≡ settled s r (limits room (bytes_needed r) (counts s) (counts r.session) r.outcome)
  unfolding limited
  limited-accepted room s r h = ap (λ b. settled s r (cond b r.outcome (limits room (bytes_needed r) (counts s) (counts r.session) r.outcome))) h

  module _ (t : Split P) (s : Session P) where
    planned : {p : Plan} → decide (view s) t.now t.call ≡ p → step t s ≡ limited t.room s (carried_out p t.load s)
    unfolding step
    planned e = ap (λ p. limited t.room s (carried_out p t.load s)) e

    module _ (p : Plan) (e : decide (view s) t.now t.call ≡ p) (a : refuses p.outcome ≡ false)
        {m : Counts} (c : counts (enact_all p.edits t.load s) ≡ m) where
      -- once the counts after it are known
      judged : step t s ≡ settled s (carried_out p t.load s) (limits t.room (bytes_needed (carried_out p t.load s)) (counts s) m p.outcome)
      unfolding carried_out
      judged =
          let r = carried_out p t.load s in
          planned e ∙ limited-accepted t.room s r a ∙ ap (λ m. settled s r (limits t.room (bytes_needed r) (counts s) m p.outcome)) c

      step-over : (n : ℕ) → 0 < n → ((bytes : ℕ) → limits t.room bytes (counts s) m p.outcome ≡ Result.refused n) →
          step t s ≡ unchanged s (Result.refused n)
      unfolding refuses
      step-over n h l =
          let r = carried_out p t.load s in
          judged ∙ ap (settled s r) (l (bytes_needed r)) ∙ settled-refused t s r (Result.refused n) (lt-ltb 0 n h)

      step_fits : Fits (counts s) m → bytes_needed (carried_out p t.load s) ≤ t.room → step t s ≡ carried_out p t.load s
      unfolding carried_out
      step_fits f h =
          let r = carried_out p t.load s in
          judged ∙ ap (settled s r) (limits-none t.room (bytes_needed r) (counts s) m p.outcome f h) ∙ settled-accepted t s r a

      step-short : Fits (counts s) m → t.room < bytes_needed (carried_out p t.load s) → step t s ≡ unchanged s (Result.refused 19)
      unfolding refuses
      step-short f h =
          let r = carried_out p t.load s in
          judged ∙ ap (settled s r) (limits-room t.room (bytes_needed r) (counts s) m p.outcome f h) ∙ settled-refused t s r (Result.refused 19) refl

    -- what is written where no request is given
    written : (p : Plan) → gave_all p.edits t.load s ≡ [] → bytes_needed (carried_out p t.load s) ≡ length (records p.events)
    unfolding bytes_needed carried_out
    written p g = rw g (add-zero (length (records p.events)))

    -- an answer and nothing else, each refusal among them
    pub step-answer : (o : Result) → decide (view s) t.now t.call ≡ answer o → step t s ≡ unchanged s o
    unfolding answer carried_out limited settled unchanged
    step-answer o e = planned e ∙ go (refuses o) refl
      where
        r : Step P
        r = carried_out (answer o) t.load s

        go : (b : Bool) → refuses o ≡ b → limited t.room s r ≡ unchanged s o
        go true h = ap (λ b. settled s r (cond b o (limits t.room (bytes_needed r) (counts s) (counts s) o))) h ∙ settled-refused t s r o h
        go false h =
            limited-accepted t.room s r h
            ∙ ap (settled s r) (limits-none t.room (bytes_needed r) (counts s) (counts s) o (fits_same (counts s)) (omega (arith, written (answer o) refl)))
            ∙ settled-accepted t s r h

    -- a plan that changes nothing of what is counted
    module _ (p : Plan) (e : decide (view s) t.now t.call ≡ p) (a : refuses p.outcome ≡ false)
        (c : counts (enact_all p.edits t.load s) ≡ counts s) (g : gave_all p.edits t.load s ≡ []) where
      pub step_kept : length (records p.events) ≤ t.room → step t s ≡ carried_out p t.load s
      step_kept h = step_fits p e a c (fits_same (counts s)) (rw (written p g) h)

      pub step-kept-short : t.room < length (records p.events) → step t s ≡ unchanged s (Result.refused 19)
      step-kept-short h = step-short p e a c (fits_same (counts s)) (rw (written p g) h)

    -- events, and edits that change nothing of what is counted
    module _ (events : List Sent) (edits : List Edit) (e : decide (view s) t.now t.call ≡ send events edits) (q : quiet_all edits ≡ true) where
      pub step-sent : length (records events) ≤ t.room → step t s ≡ carried_out (send events edits) t.load s
      unfolding send refuses
      step-sent h = let k = quiet edits t.load s q in step_kept (send events edits) e refl k.0 k.1 h

      pub step-sent-short : t.room < length (records events) → step t s ≡ unchanged s (Result.refused 19)
      unfolding send refuses
      step-sent-short h = let k = quiet edits t.load s q in step-kept-short (send events edits) e refl k.0 k.1 h

    -- ---- a timed request is pended

    module _ (amends : List Amend) (f : Found) (i : Sight) (e : decide (view s) t.now t.call ≡ pend_after amends f i) (k : f.slot < length s.devices) where
      abbrev waits : ℕ
      waits = get_or (counts s).pending f.slot 0

      pended-over : any_over 64 (counts s).pending (after_pend f.slot (texts i.kind) (counts s)).pending ≡ over 64 waits (waits + 1)
      unfolding counts after_pend
      pended-over = any_over-change 64 (λ n. n + 1) f.slot (waiting s.devices) (rw (length-map s.devices (λ d. length d.pending)) k)

      pub step_pend_full : 64 ≤ get_or (counts s).pending f.slot 0 → step t s ≡ unchanged s (Result.refused 16)
      unfolding pend_after edit refuses after_pend
      step_pend_full h =
          step-over (pend_after amends f i) e refl (pends amends f i t.load s k).0 16 (omega arith)
          (λ b. limits-pending t.room b (counts s) _ _ (over_same 4 _) (over_same 8 _)
          (pended-over ∙ over-more 64 waits (waits + 1) (omega arith) (omega arith)))

      pub step-pend-texts : get_or (counts s).pending f.slot 0 < 64 → texts i.kind ≡ 1 → 32 ≤ (counts s).texts → step t s ≡ unchanged s (Result.refused 18)
      unfolding pend_after edit refuses after_pend
      step-pend-texts h x l =
          step-over (pend_after amends f i) e refl (pends amends f i t.load s k).0 18 (omega arith)
          (λ b. limits-texts t.room b (counts s) _ _ (over_same 4 _) (over_same 8 _)
          (pended-over ∙ over-fits 64 waits (waits + 1) (omega arith))
          (over_same 256 _) (over-more 32 (counts s).texts ((counts s).texts + texts i.kind) (omega arith) (omega arith)))

      pub step-pend : get_or (counts s).pending f.slot 0 < 64 → (texts i.kind ≡ 0) ⊎ ((counts s).texts < 32) →
          step t s ≡ carried_out (pend_after amends f i) t.load s
      unfolding pend_after edit refuses after_pend records
      step-pend h x =
          let c = pends amends f i t.load s k in
          step_fits (pend_after amends f i) e refl c.0
          (record {
            seats = over_same 4 _;
            devices = over_same 8 _;
            pending = pended-over ∙ over-fits 64 waits (waits + 1) (omega arith);
            queued = over_same 256 _;
            texts = texts_fit (counts s).texts i.kind x;
            next_id = over_same 0xffff_ffff_ffff_ffff _;
          })
          (rw (written (pend_after amends f i) c.1) (omega arith))

    -- ---- requests are queued

    -- edits that send no event and end in a longer queue
    module _ (edits : List Edit) (e : decide (view s) t.now t.call ≡ edit edits) (m : Counts) (c : counts (enact_all edits t.load s) ≡ m)
        (a : m.seats ≤ (counts s).seats) (b : m.devices ≤ (counts s).devices) (d : any_over 64 (counts s).pending m.pending ≡ false) where
      queued_full : 256 < m.queued → (counts s).queued < m.queued → step t s ≡ unchanged s (Result.refused 17)
      unfolding edit refuses
      queued_full h k =
          step-over (edit edits) e refl c 17 (omega arith)
          (λ n. limits-queued t.room n (counts s) m Result.accepted (over-less 4 _ _ a) (over-less 8 _ _ b) d (over-more 256 _ _ h k))

      queued-fits : gave_all edits t.load s ≡ [] → over 256 (counts s).queued m.queued ≡ false → m.texts ≤ (counts s).texts → m.next_id ≤ (counts s).next_id →
          step t s ≡ carried_out (edit edits) t.load s
      unfolding edit refuses records
      queued-fits g h x y = step_fits (edit edits) e refl c (fits-queued (counts s) m a b d h x y) (rw (written (edit edits) g) (omega arith))

    module _ (r : Untimed) (e : decide (view s) t.now t.call ≡ edit (Edit.queue r ∷ [])) where
      pub step_queue_full : 256 ≤ length s.requests → step t s ≡ unchanged s (Result.refused 17)
      unfolding enact_all after_queue counts
      step_queue_full h =
          queued_full _ e (after_queue (counts s)) (counts-queue r t.load s) (le_refl _) (le_refl _)
          (any_over_same 64 _) (omega arith) (omega arith)

      pub step-queue : length s.requests < 256 → step t s ≡ carried_out (edit (Edit.queue r ∷ [])) t.load s
      unfolding enact_all gave_all after_queue counts
      step-queue h =
          queued-fits _ e (after_queue (counts s)) (counts-queue r t.load s) (le_refl _) (le_refl _)
          (any_over_same 64 _) refl (over-fits 256 _ _ (omega arith)) (le_refl _) (le_refl _)

    -- a client's Frame
    module _ (k serial time : ℕ) (e : decide (view s) t.now t.call ≡ edit (Edit.frame k serial time ∷ [])) where
      pub step_frame_full : 0 < get_or (counts s).pending k 0 → 256 < length s.requests + (get_or (counts s).pending k 0 + 1) →
          step t s ≡ unchanged s (Result.refused 17)
      unfolding enact_all after_frame counts
      step_frame_full p h =
          let q = framed_length-some _ p in
          queued_full _ e (after_frame k (counts s)) (counts-frame k serial time t.load s) (le_refl _) (le_refl _)
          (any_over-emptied 64 k _) (omega arith) (omega arith)

      framed-fits : over 256 (counts s).queued ((counts s).queued + framed_length (get_or (counts s).pending k 0)) ≡ false →
          step t s ≡ carried_out (edit (Edit.frame k serial time ∷ [])) t.load s
      unfolding enact_all gave_all after_frame
      framed-fits h =
          queued-fits _ e (after_frame k (counts s)) (counts-frame k serial time t.load s) (le_refl _) (le_refl _)
          (any_over-emptied 64 k _) refl h (le_refl _) (le_refl _)

      pub step-frame : length s.requests + framed_length (get_or (counts s).pending k 0) ≤ 256 →
          step t s ≡ carried_out (edit (Edit.frame k serial time ∷ [])) t.load s
      unfolding counts
      step-frame h = framed-fits (over-fits 256 _ _ h)

    -- a request that is queued behind the frame of its device
    module _ (k serial time : ℕ) (r : Untimed) (e : decide (view s) t.now t.call ≡ edit (Edit.frame k serial time ∷ Edit.queue r ∷ [])) where
      flushed : counts (enact_all (Edit.frame k serial time ∷ Edit.queue r ∷ []) t.load s) ≡ after_queue (after_frame k (counts s))
      unfolding enact_all
      flushed = counts-queue r t.load (enact (Edit.frame k serial time) t.load s) ∙ ap after_queue (counts-frame k serial time t.load s)

      pub step_flush_full : 256 < length s.requests + framed_length (get_or (counts s).pending k 0) + 1 → step t s ≡ unchanged s (Result.refused 17)
      unfolding after_queue after_frame counts
      step_flush_full h = queued_full _ e (after_queue (after_frame k (counts s))) flushed (le_refl _) (le_refl _)
          (any_over-emptied 64 k _) h (omega arith)

      pub step_flush : length s.requests + framed_length (get_or (counts s).pending k 0) + 1 ≤ 256 →
          step t s ≡ carried_out (edit (Edit.frame k serial time ∷ Edit.queue r ∷ [])) t.load s
      unfolding gave_all after_queue after_frame counts
      step_flush h =
          queued-fits _ e (after_queue (after_frame k (counts s))) flushed (le_refl _) (le_refl _)
          (any_over-emptied 64 k _) refl (over-fits 256 _ _ h) (le_refl _) (le_refl _)

    -- ---- a new seat, a new device

    module _ {id caps : ℕ} {events : List Sent} (e : decide (view s) t.now t.call ≡ seat_plan id caps events) where
      seated : counts (enact_all (Edit.add_seat caps ∷ []) t.load s) ≡ after_seat (counts s)
      unfolding enact_all
      seated = counts-add_seat caps t.load s

      pub step_seat_full : 4 ≤ length s.connection.seats → step t s ≡ unchanged s (Result.refused 14)
      unfolding refuses after_seat counts
      step_seat_full h = step-over _ e refl seated 14 (omega arith) (λ b. limits-seats t.room b (counts s) _ _ (over-more 4 _ _ (omega arith) (omega arith)))

      module _ (n : length s.connection.seats < 4) where
        pub step_seat_spent : 0xffff_ffff_ffff_ffff < s.connection.next_id + 1 → step t s ≡ unchanged s (Result.refused 20)
        unfolding refuses after_seat counts
        step_seat_spent h =
            step-over _ e refl seated 20 (omega arith)
            (λ b. limits-next_id t.room b (counts s) _ _ (over-fits 4 _ _ (omega arith)) (over_same 8 _) (any_over_same 64 _) (over_same 256 _)
            (over_same 32 _) (over-more _ _ _ h (omega arith)))

        module _ (i : s.connection.next_id + 1 ≤ 0xffff_ffff_ffff_ffff) where
          seat-fits : Fits (counts s) (after_seat (counts s))
          unfolding after_seat counts
          seat-fits =
              record {
                seats = over-fits 4 _ _ (omega arith);
                devices = over_same 8 _;
                pending = any_over_same 64 _;
                queued = over_same 256 _;
                texts = over_same 32 _;
                next_id = over-fits _ _ _ i;
              }

          pub step-seat-short : t.room < length (records events) → step t s ≡ unchanged s (Result.refused 19)
          unfolding refuses gave_all
          step-seat-short h = step-short _ e refl seated seat-fits (rw (written (seat_plan id caps events) refl) h)

          pub step-seat : length (records events) ≤ t.room →
              step t s ≡ carried_out (seat_plan id caps events) t.load s
          unfolding refuses gave_all
          step-seat h = step_fits _ e refl seated seat-fits (rw (written (seat_plan id caps events) refl) h)

    module _ {id seat caps : ℕ} {events : List Sent} (e : decide (view s) t.now t.call ≡ device_plan id seat caps events) where
      added : counts (enact_all (Edit.add_device seat caps ∷ []) t.load s) ≡ after_device (length (bits_of caps)) (counts s)
      unfolding enact_all
      added = counts-add_device seat caps t.load s

      pub step_device_full : 8 ≤ length s.devices → step t s ≡ unchanged s (Result.refused 15)
      unfolding refuses after_device counts
      step_device_full h =
          step-over _ e refl added 15 (omega arith)
          (λ b. limits-devices t.room b (counts s) _ _ (over_same 4 _) (over-more 8 _ _ (omega arith) (omega arith)))

      module _ (n : length s.devices < 8) where
        pub step_device_spent : 0xffff_ffff_ffff_ffff < s.connection.next_id + 1 + length (bits_of caps) → step t s ≡ unchanged s (Result.refused 20)
        unfolding refuses after_device counts
        step_device_spent h =
            step-over _ e refl added 20 (omega arith)
            (λ b. limits-next_id t.room b (counts s) _ _ (over_same 4 _) (over-fits 8 _ _ (omega arith)) (any_over_new 64 _ 0) (over_same 256 _)
            (over_same 32 _) (over-more _ _ _ h (omega arith)))

        module _ (i : s.connection.next_id + 1 + length (bits_of caps) ≤ 0xffff_ffff_ffff_ffff) where
          device-fits : Fits (counts s) (after_device (length (bits_of caps)) (counts s))
          unfolding after_device counts
          device-fits =
              record {
                seats = over_same 4 _;
                devices = over-fits 8 _ _ (omega arith);
                pending = any_over_new 64 _ 0;
                queued = over_same 256 _;
                texts = over_same 32 _;
                next_id = over-fits _ _ _ i;
              }

          pub step-device-short : t.room < length (records events) → step t s ≡ unchanged s (Result.refused 19)
          unfolding refuses gave_all
          step-device-short h = step-short _ e refl added device-fits (rw (written (device_plan id seat caps events) refl) h)

          pub step-device : length (records events) ≤ t.room →
              step t s ≡ carried_out (device_plan id seat caps events) t.load s
          unfolding refuses gave_all
          step-device h = step_fits _ e refl added device-fits (rw (written (device_plan id seat caps events) refl) h)

    -- ---- removals

    -- nothing more is counted, so the room alone can fail, if no pending list is beyond its limit
    module _ (events : List Sent) (edits : List Edit) (e : decide (view s) t.now t.call ≡ send events edits) (q : removes_all edits ≡ true)
        (w : (k : ℕ) → k < length s.devices → get_or (counts s).pending k 0 ≤ 64) where
      removal_fits : Fits (counts s) (counts (enact_all edits t.load s))
      unfolding counts
      removal_fits = let l = (removed edits t.load s q).0 in fits-less _ _ l (any_over-within 64 _ _ (l.pending (all_waiting 64 s.devices w)))

      pub step-remove : length (records events) ≤ t.room → step t s ≡ carried_out (send events edits) t.load s
      unfolding send refuses
      step-remove h = step_fits (send events edits) e refl refl removal_fits (rw (written (send events edits) (removed edits t.load s q).1) h)

      pub step-remove-short : t.room < length (records events) → step t s ≡ unchanged s (Result.refused 19)
      unfolding send refuses
      step-remove-short h = step-short (send events edits) e refl refl removal_fits (rw (written (send events edits) (removed edits t.load s q).1) h)

    -- ---- the oldest request is given

    module _ {r : Queued P} {rs : List (Queued P)} (q : s.requests ≡ r ∷ rs) where
      pub deliver-gave : (carried_out deliver_plan t.load s).gave ≡ r ∷ []
      unfolding carried_out gave_all
      deliver-gave = rw q

      module _ (e : decide (view s) t.now t.call ≡ deliver_plan) where
        deliver-fits : Fits (counts s) (counts (enact_all (Edit.deliver ∷ []) t.load s))
        unfolding enact_all counts
        deliver-fits = fits-less _ _ (lessens_deliver t.load s) (any_over_same 64 _)

        deliver-bytes : bytes_needed (carried_out deliver_plan t.load s) ≡ text_bytes (r ∷ [])
        unfolding bytes_needed carried_out records
        deliver-bytes = rw deliver-gave (zero-add (text_bytes (r ∷ [])))

        pub step-deliver-short : t.room < text_bytes (r ∷ []) → step t s ≡ unchanged s (Result.refused 19)
        unfolding refuses
        step-deliver-short h = step-short _ e refl refl deliver-fits (rw deliver-bytes h)

        pub step-deliver : text_bytes (r ∷ []) ≤ t.room → step t s ≡ carried_out deliver_plan t.load s
        unfolding refuses
        step-deliver h = step_fits _ e refl refl deliver-fits (rw deliver-bytes h)
