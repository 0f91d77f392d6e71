-- Every plan lets all devices stand and pends one request at most, or is a removal's and does nothing with requests but lose what is pending on the devices that it takes
-- out; and none queues a Frame but by closing a frame, which the plans of five requests alone do. Assumes nothing.
use Prim.Native.Nat.{ℕ, ◌+◌, ◌≤◌}
use mathlib.Core.Path.{◌≡◌, refl, ap}
use mathlib.Core.Bool.{Bool, true, false, not, false≢true}
use mathlib.Core.List.{List, [], ◌∷◌, ◌++◌, map}
use native.Mathlib.Omega.{arith}
use Rattle.model.specs.Call.{Sight, Plain, Call}
use Rattle.model.specs.Session.{Seat, View}
use Rattle.model.specs.Edit.{Amend, Edit}
use Rattle.model.specs.Plan.{Plan, answer, ignore, edit, send}
use Rattle.model.specs.Decide.{send_next, pend_after, seat_added, device_added, send_destroyed, retire_seat, remove_seats, decide}
use Rattle.model.specs.Framed.{is_frame, Removes}
use Rattle.model.proofs.All.{All, none, more}
use Rattle.model.proofs.Leaves.{Noted, Closing, Leaf}
use Rattle.model.proofs.Walk.{walk}

-- whether an edit takes no device out, queues no Frame by itself and, unless `frames`, closes no frame
unfoldable pub stays : (frames : Bool) → Edit → Bool
unfolding is_frame
stays frames (Edit.raise n) = true
stays frames (Edit.add_seat caps) = true
stays frames (Edit.remove_seat seat) = true
stays frames (Edit.add_device seat caps) = true
stays frames (Edit.remove_device k) = false
stays frames (Edit.remove_devices_of seat) = false
stays frames (Edit.amend k a) = true
stays frames (Edit.pend k sight) = true
stays frames (Edit.frame k serial time) = frames
stays frames (Edit.queue u) = not (is_frame u)
stays frames Edit.deliver = true
stays frames (Edit.peer_object id) = true
stays frames Edit.end_connection = true

-- whether an edit does nothing with requests but take devices out
unfoldable pub clears : Edit → Bool
clears (Edit.raise n) = true
clears (Edit.add_seat caps) = false
clears (Edit.remove_seat seat) = true
clears (Edit.add_device seat caps) = false
clears (Edit.remove_device k) = true
clears (Edit.remove_devices_of seat) = true
clears (Edit.amend k a) = false
clears (Edit.pend k sight) = false
clears (Edit.frame k serial time) = false
clears (Edit.queue u) = false
clears Edit.deliver = false
clears (Edit.peer_object id) = false
clears Edit.end_connection = true

abbrev pub Stays : (frames : Bool) → Edit → Type 0
Stays frames e = stays frames e ≡ true

abbrev pub Clears : Edit → Type 0
Clears e = clears e ≡ true

-- how many requests an edit pends
unfoldable pub pends : Edit → ℕ
pends (Edit.raise n) = 0
pends (Edit.add_seat caps) = 0
pends (Edit.remove_seat seat) = 0
pends (Edit.add_device seat caps) = 0
pends (Edit.remove_device k) = 0
pends (Edit.remove_devices_of seat) = 0
pends (Edit.amend k a) = 0
pends (Edit.pend k sight) = 1
pends (Edit.frame k serial time) = 0
pends (Edit.queue u) = 0
pends Edit.deliver = 0
pends (Edit.peer_object id) = 0
pends Edit.end_connection = 0

unfoldable pub pends_all : List Edit → ℕ
unfolding pends
pends_all [] = 0
pends_all (e ∷ es) = pends e + pends_all es

-- a call that closes a frame
abbrev pub ClosesOne : View → (now : ℕ) → Call Sight → Type 0
ClosesOne v now c = (request : Plain) × ((c ≡ Call.plain request) × Closing v now request)

pub data Sorted (v : View) (now : ℕ) (es : List Edit) : Call Sight → Type 0 where
  staying : {c : Call Sight} (frames : Bool) → (frames ≡ true → ClosesOne v now c) → All (Stays frames) es → pends_all es ≤ 1 → Sorted v now es c
  clearing : {request : Plain} → Removes request → All Clears es → Sorted v now es (Call.plain request)

pend_sorted : (k : ℕ) (x : Sight) (amends : List Amend) →
    let es = map (λ a. Edit.amend k a) amends ++ (Edit.pend k x ∷ []) in All (Stays false) es × (pends_all es ≤ 1)
unfolding stays pends_all
pend_sorted k x [] = (more refl none, omega arith)
pend_sorted k x (a ∷ others) = let r = pend_sorted k x others in (more refl r.0, omega (arith, r.1))

remove_seats-clears : (ss : List Seat) → All Clears (remove_seats ss)
unfolding remove_seats clears
remove_seats-clears [] = none
remove_seats-clears (s ∷ ss) = more refl (more refl (remove_seats-clears ss))

module _ {v : View} {now : ℕ} where
  -- no frame is closed
  calm : {c : Call Sight} {es : List Edit} → All (Stays false) es → pends_all es ≤ 1 → Sorted v now es c
  calm a one = staying false (λ e. absurd (false≢true e)) a one

  noted_sorted : {c : Call Sight} {edits : List Edit} → Noted edits → Sorted v now (Edit.raise 1 ∷ edits) c
  unfolding stays pends_all
  noted_sorted Noted.nothing = calm (more refl none) (omega arith)
  noted_sorted (Noted.clears k) = calm (more refl (more refl none)) (omega arith)

  leaf_sorted : {c : Call Sight} {plan : Plan} → Leaf v now c plan → Sorted v now plan.edits c
  unfolding stays clears pends_all answer ignore pend_after edit send send_next send_destroyed retire_seat seat_added device_added
  leaf_sorted (Leaf.turned o h m) = calm none (omega arith)
  leaf_sorted (Leaf.passed h) = calm none (omega arith)
  leaf_sorted (Leaf.pended {x = x} f amends e g t) = let r = pend_sorted f.slot x amends in calm r.0 r.1
  leaf_sorted (Leaf.answered o m) = calm none (omega arith)
  leaf_sorted (Leaf.synced callback) = calm none (omega arith)
  leaf_sorted (Leaf.synced_message callback) = calm (more refl none) (omega arith)
  leaf_sorted (Leaf.noted object event edits m h) = noted_sorted h
  leaf_sorted (Leaf.released cap id f e) = calm (more refl (more refl none)) (omega arith)
  leaf_sorted (Leaf.device_gone id f r e) = clearing r (more refl (more refl none))
  leaf_sorted (Leaf.seat_gone id x r e) = clearing r (more refl (more refl (more refl none)))
  leaf_sorted (Leaf.all_gone reason explanation r) = clearing r (more refl (more refl (remove_seats-clears v.connection.seats)))
  leaf_sorted (Leaf.queued u n) = calm (more (ap not n) none) (omega arith)
  leaf_sorted (Leaf.flushed {c = c} id f u n k e) = staying true (λ _. (c, (refl, k))) (more refl (more (ap not n) none)) (omega arith)
  leaf_sorted (Leaf.closed {c = c} id serial time f k e) = staying true (λ _. (c, (refl, k))) (more refl none) (omega arith)
  leaf_sorted Leaf.handed = calm (more refl none) (omega arith)
  leaf_sorted (Leaf.new_seat name caps) = calm (more refl none) (omega arith)
  leaf_sorted (Leaf.new_device seat name type both) = calm (more refl none) (omega arith)

pub decide_sorted : (v : View) (now : ℕ) (c : Call Sight) → Sorted v now (decide v now c).edits c
decide_sorted v now c = leaf_sorted (walk v now c)
