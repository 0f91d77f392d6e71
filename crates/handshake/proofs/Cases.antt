-- The definitions case by case, for the code's tests. Assumes nothing.
use Prim.Native.Nat.{ℕ, ◌+◌, ◌≤◌, ◌<◌}
use mathlib.Core.Bool.{Bool, true, false, cond, false≢true}
use mathlib.Core.List.{List}
use mathlib.Core.Option.{Option, none, some}
use mathlib.Core.Path.{◌≡◌, refl, sym, ap, ◌∙◌}
use borrow.Author.Tests.{lt-ltb, le-ltb, ltb-true}
use lib.Dec.{ltb}
use native.Mathlib.Omega.{arith}
use lib.ListN.{length}
use Rattle.eiproto.specs.declared.eiproto_enum.ContextType.{ContextType}
use Rattle.eiproto.specs.Interface.{lookup}
use Rattle.eiproto.specs.Told.{told}
use Rattle.eiproto.proofs.Interface.{lookup-some}
use Rattle.std.specs.Prelude.{Some, None}
use Rattle.std.specs.Prelude as rust
use Rattle.utf8.specs.Rfc3629.{is_utf8}
use Rattle.wire.specs.Ids.{new_objects}
use Rattle.handshake.specs.Handshake.{Handshake, Message, Step, refuse, accept, check_utf8, check_room, set_name, set_context, negotiate, complete, concluded, missing, finish, handle_request, or_receiver}

module _ (h : Handshake) (room : ℕ) where
  pub room-short : (s : Step) → room < length s.bytes → check_room h room s ≡ refuse h 19
  unfolding check_room
  room-short s l = rw (lt-ltb room (length s.bytes) l)

  pub room_enough : (s : Step) → length s.bytes ≤ room → check_room h room s ≡ s
  unfolding check_room
  room_enough s l = rw (le-ltb room (length s.bytes) l)

  module _ (text : List ℕ) where
    pub name-bad : is_utf8 text ≡ false → handle_request h (Message.Name text) room ≡ refuse h 10
    unfolding handle_request check_utf8
    name-bad e = rw e

    pub version-bad : (v : ℕ) → is_utf8 text ≡ false → handle_request h (Message.InterfaceVersion text v) room ≡ refuse h 10
    unfolding handle_request check_utf8
    version-bad v e = rw e

    pub other-bad : is_utf8 text ≡ false → handle_request h (Message.Other text) room ≡ refuse h 10
    unfolding handle_request check_utf8
    other-bad e = rw e

    module _ (valid : is_utf8 text ≡ true) where
      pub name-long : 254 < length text → handle_request h (Message.Name text) room ≡ refuse h 11
      unfolding handle_request check_utf8
      name-long l = rw (valid, lt-ltb 254 (length text) l)

      pub name_twice : length text ≤ 254 → {old : List ℕ} → h.name ≡ some old → handle_request h (Message.Name text) room ≡ refuse h 8
      unfolding handle_request check_utf8 set_name
      name_twice l e = rw (valid, le-ltb 254 (length text) l, e)

      pub name-first : length text ≤ 254 → h.name ≡ none
          → handle_request h (Message.Name text) room
          ≡ accept (record { name = some text; context_type = h.context_type; versions = h.versions; initial_serial = h.initial_serial; next_id = h.next_id })
      unfolding handle_request check_utf8 set_name
      name-first l e = rw (valid, le-ltb 254 (length text) l, e)

      pub version-set : (v : ℕ) {found : Option ℕ} → found ≡ lookup text
          → handle_request h (Message.InterfaceVersion text v) room
          ≡ accept (record { name = h.name; context_type = h.context_type; versions = negotiate found v h.versions; initial_serial = h.initial_serial; next_id = h.next_id })
      unfolding handle_request check_utf8
      version-set v e = rw (valid, ← e)

      pub other_away : handle_request h (Message.Other text) room ≡ refuse h 7
      unfolding handle_request check_utf8
      other_away = rw valid

  pub context_twice : (c : ContextType) (said : rust.Option ContextType) → h.context_type ≡ told said → true ≡ rust.is_some said
      → handle_request h (Message.Context c) room ≡ refuse h 8
  unfolding handle_request set_context
  context_twice c (Some old) e t = rw e
  context_twice c None e t = absurd (false≢true (sym t))

  pub context-first : (c : ContextType) (said : rust.Option ContextType) → h.context_type ≡ told said → false ≡ rust.is_some said
      → handle_request h (Message.Context c) room
      ≡ accept (record { name = h.name; context_type = some c; versions = h.versions; initial_serial = h.initial_serial; next_id = h.next_id })
  unfolding handle_request set_context
  context-first c None e t = rw e
  context-first c (Some old) e t = absurd (false≢true t)

  pub finish-missing : complete h.versions ≡ false → finish h room ≡ check_room h room (missing h)
  unfolding finish
  finish-missing e = rw e

  module _ (whole : complete h.versions ≡ true) where
    pub finish_spent : 0xffff_ffff_ffff_ffff < h.next_id + 1 → finish h room ≡ refuse h 20
    unfolding finish
    finish_spent l = rw (whole, lt-ltb 0xffff_ffff_ffff_ffff (h.next_id + 1) l)

    pub finish-concluded : h.next_id + 1 ≤ 0xffff_ffff_ffff_ffff → finish h room ≡ check_room h room (concluded h)
    unfolding finish
    finish-concluded l = rw (whole, le-ltb 0xffff_ffff_ffff_ffff (h.next_id + 1) l)

-- "context type defaults to Receiver"
pub or_receiver_is : (said : rust.Option ContextType) → rust.unwrap_or said ContextType.Receiver ≡ or_receiver (told said)
unfolding or_receiver
or_receiver_is None = refl
or_receiver_is (Some c) = refl

-- a number that is found is that of one of the twelve
pub found_in : (text : List ℕ) {f : rust.Option ℕ} (n : ℕ) → told f ≡ lookup text → f ≡ Some n → (0 < n) × (n < 13)
found_in text n e p = let r = lookup-some text n (sym e ∙ ap told p) in (r.0, r.1.0)

-- ids that are left, and that are not
pub next_is : (next n : ℕ) → new_objects next 1 ≡ Some n → n ≡ next + 1
unfolding new_objects
next_is next n e = go (ltb 0xffff_ffff_ffff_ffff (next + 1)) e
  where
    go : (t : Bool) → cond t None (Some (next + 1)) ≡ Some n → n ≡ next + 1
    go true e = absurd (let z : ◌≡◌ {A = ℕ} 0 1 = cc in omega arith)
    go false e = cc

pub next_spent : (next : ℕ) → new_objects next 1 ≡ None → 0xffff_ffff_ffff_ffff < next + 1
unfolding new_objects
next_spent next e = go (ltb 0xffff_ffff_ffff_ffff (next + 1)) refl e
  where
    go : (t : Bool) → ltb 0xffff_ffff_ffff_ffff (next + 1) ≡ t → cond t None (Some (next + 1)) ≡ None → 0xffff_ffff_ffff_ffff < next + 1
    go true l e = ltb-true 0xffff_ffff_ffff_ffff (next + 1) l
    go false l e = absurd (let z : ◌≡◌ {A = ℕ} 0 1 = cc in omega arith)
