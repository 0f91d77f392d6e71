-- Each press in one frame, of the code: the slices, the answers and the text buffers hold and tell what the definitions' run has. Assumes nothing.
use Prim.Native.Nat.{ℕ}
use mathlib.Core.Path.{◌≡◌, refl, ap, sym, subst, ◌∙◌}
use mathlib.Core.Bool.{true, false}
use mathlib.Core.List.{List, [], ◌∷◌, ◌++◌, map}
use mathlib.Core.Option.{Option}
use lib.ListN.{length}
use Rattle.model.specs.Call.{Load, Call, Turn, split}
use Rattle.model.specs.Session.{Device, Session, fresh}
use Rattle.model.specs.Step.{refuses, step}
use Rattle.model.specs.Demand3.{delivered, trail, taken}
use Rattle.model.specs.Reachable.{session_after}
use Rattle.model.specs.Framed.{Places, stands, gone_from, removed_by, places_after, numbered, load_at, EachPress, AlwaysEachPress, Closes, Closed, FrameTakesAll}
use Rattle.model.proofs.Framed.{each_press, frame_takes_all}
use Rattle.session.specs.View.{Store, session, is_whole}
use Rattle.session.proofs.Views.{whole_is}
use Rattle.answers.specs.Meets.{turn}
use Rattle.answers.proofs.Meetings.{answered-handled}
use Rattle.session_theorems.specs.Trail.{Exchange, turn_of, Calls, slices_after, FreshCalls}
use Rattle.session_theorems.specs.Made.{Made, after_made, FreshMade, delivered_in, Replaced}
use Rattle.session_theorems.specs.Framed.{removed_to, places_in, AlwaysEachPressSeen, AlwaysEachPressServed, SeenFrameTakesAll}
use Rattle.session_theorems.proofs.Trails.{stays-whole, delivered_is_trail, after_is}
use Rattle.session_theorems.proofs.Making.{reads_are_singles}
use Rattle.session_theorems.proofs.Serving.{from_finish}

-- the devices that calls removed are those of the run
removed_is : (s : Store) (xs : List Exchange) → is_whole s ≡ true → Calls s xs → removed_to s xs ≡ removed_by (map split (map turn_of xs)) (session s)
unfolding removed_to removed_by slices_after
removed_is s [] whole Calls.none = refl
removed_is s (Exchange.called call other clock out later answer e ∷ xs) whole (Calls.called a rest) =
    let m = answered-handled s a whole in
    ap (λ (ds : List (Device Load)). gone_from (session e).devices (session s).devices ++ ds) (removed_is e xs (whole_is e m.whole) rest)
    ∙ ap (λ (t : Session Load). gone_from t.devices (session s).devices ++ removed_by (map split (map turn_of xs)) t) m.view
removed_is s (Exchange.asked clock buffer later answer e ∷ xs) whole (Calls.asked a rest) =
    let m = a.handled clock whole in
    ap (λ (ds : List (Device Load)). gone_from (session e).devices (session s).devices ++ ds) (removed_is e xs (whole_is e m.whole) rest)
    ∙ ap (λ (t : Session Load). gone_from t.devices (session s).devices ++ removed_by (map split (map turn_of xs)) t) m.view

module _ {c n i : ℕ} {vs : List (Option ℕ)} {s : Store} {xs : List Made} (f : FreshMade c n i vs s xs) where
  replaced : Replaced s xs
  replaced = reads_are_singles s xs f.whole f.calls

  turns : List Turn
  turns = map turn_of replaced.singles

  singly : FreshCalls c n i vs s replaced.singles
  singly = record { whole = f.whole; starts = f.starts; calls = replaced.calls }

  -- the session that the slices hold
  holds : session_after (map split turns) (fresh c n i vs) ≡ session (after_made s xs)
  unfolding turns
  holds = after_is singly ∙ ap session replaced.after

  places_are : places_after (map split turns) (fresh c n i vs) ≡ places_in s replaced.singles xs
  unfolding places_after trail turns
  places_are =
      let told : delivered (trail c n i vs turns) ≡ delivered_in xs = delivered_is_trail singly ∙ replaced.delivered in
      let gone : removed_by (map split turns) (fresh c n i vs) ≡ removed_to s replaced.singles =
      sym (removed_is s replaced.singles f.whole replaced.calls ∙ ap (removed_by (map split turns)) f.starts) in
      λ k. record { delivered = told k; queued = (holds k).requests; devices = (holds k).devices; removed = gone k }

pub each_press_seen : AlwaysEachPressSeen
unfolding AlwaysEachPress replaced turns
each_press_seen c n i vs s xs f =
    record {
      replaced = replaced f;
      each_press =
          subst (λ (x : Places Load). EachPress (λ d. taken c n i vs d (turns f)) (load_at (turns f)) (places_after (numbered 0 (turns f)) (fresh c n i vs)) x)
          (places_are f) (each_press c n i vs (turns f));
    }

pub each_press_served : AlwaysEachPressServed
each_press_served x h = each_press_seen _ _ _ _ x.slices x.calls (from_finish x h)

pub seen_frame_takes_all : SeenFrameTakesAll
unfolding FrameTakesAll turns
seen_frame_takes_all c n i vs s xs f l e out later request clock answer device serial time behind a closes stood accepted =
    let before = after_made s xs in
    let whole : is_whole before ≡ true = rw (← (replaced f).after) (stays-whole s (replaced f).singles f.whole (replaced f).calls) in
    let m = answered-handled before a whole in
    let r = step (split (turn (Call.plain request) clock out)) (session before) in
    let taken_all : refuses r.outcome ≡ false → Closed device serial time behind (session before) r.session =
    subst
    (λ (t : Session Load).
    Closes device t.connection.last_serial clock request serial time behind → stands device t.devices ≡ true →
    refuses (step (split (turn (Call.plain request) clock out)) t).outcome ≡ false →
    Closed device serial time behind t (step (split (turn (Call.plain request) clock out)) t).session)
    (holds f) (frame_takes_all c n i vs (turns f) request clock (length out) device serial time behind) closes stood in
    rw m.view (taken_all (rw (← m.outcome) accepted))
