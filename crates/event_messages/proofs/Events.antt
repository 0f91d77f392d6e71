-- An event, and its values by the shape of its kind, are one thing: the same record, the same message, and sendable together. Assumes nothing.
use Prim.Native.Nat.{ℕ, ◌+◌, ◌≤◌, ◌<◌}
use mathlib.Core.Bool.{Bool, true, false, cond, ◌||◌}
use mathlib.Core.List.{List, [], ◌∷◌, ◌++◌, append-nil}
use mathlib.Core.Logic.{dite}
use mathlib.Core.Path.{◌≡◌, refl, sym, ap, subst}
use native.Mathlib.Decide.{dec_lt}
use native.Mathlib.Omega.{arith}
use borrow.Author.Tests.{eqb-true}
use lib.Dec.{eqb}
use lib.ListN.{length}
use Rattle.eiproto.specs.Interface.{interface_name}
use Rattle.utf8.specs.Rfc3629.{is_utf8}
use Rattle.wire.specs.Record.{layout, text_of, event_record}
use Rattle.wire.specs.Fields.{start as start_of, Laid}
use Rattle.wire.specs.declared.event.Event.{Event}
use Rattle.wire.specs.declared.event.Event.TheVariants.{Seat, Name, Capability, Done, Destroyed, Device, DeviceType, Interface, Resumed, Paused, StartEmulating, StopEmulating, Frame, Disconnected, CallbackDone, HandshakeVersion, InterfaceVersion, Connection}
use Rattle.wire.proofs.Records.{layout_of, laid, laid-disconnected, record_is}
use Rattle.event_messages.specs.Message.{le, uint64, string, arguments}
use Rattle.event_messages.specs.Stands.{between, zero_free, sendable_text, sendable}
use Rattle.event_messages.specs.Shape.{shape_of, sent, sent_arguments, textual, values_of, explains, allowed, allowed_all, fixed_size}
use Rattle.event_messages.specs.Fields.{fields_of}
use Rattle.event_messages.specs.declared.Shape.{Shape}
use Rattle.event_messages.specs.declared.Values.{Values}
use Rattle.event_messages.proofs.Tests.{both_hold}

pub record Same (k : ℕ) (e : Event) (v : Values) : Type 0 where
  pub kind : (layout e).kind ≡ k
  pub laid : Laid e (fields_of k (shape_of k) v (layout e).text)
  pub told : (t : List ℕ) → arguments e t ≡ sent_arguments (shape_of k) v (text_of e t)
  pub fits : (t : List ℕ) → sendable e t ≡ true → allowed_all (shape_of k) v (text_of e t) ≡ true
  pub sends : (t : List ℕ) → allowed_all (shape_of k) v t ≡ true → (sendable e t ≡ true) × (text_of e t ≡ t)

-- ---- what can be sent has values that are allowed, and a text where the shape has one

pub record Allowed (s : Shape) (v : Values) (t : List ℕ) : Type 0 where
  pub first : allowed s.first v.first (length t) ≡ true
  pub second : allowed s.second v.second (length t) ≡ true
  pub third : allowed s.third v.third (length t) ≡ true
  pub has : textual s || eqb (length t) 0 ≡ true
  pub text : sendable_text t ≡ true

pub parts : (s : Shape) (v : Values) (t : List ℕ) → allowed_all s v t ≡ true → Allowed s v t
unfolding allowed_all
parts s v t h =
    let one = both_hold h in
    let two = both_hold one.1 in
    let three = both_hold two.1 in
    let four = both_hold three.1 in
    record { first = one.0; second = two.0; third = three.0; has = four.0; text = four.1 }

none_of : (t : List ℕ) → eqb (length t) 0 ≡ true → [] ≡ t
none_of [] e = refl
none_of (x ∷ t) e = absurd (omega (arith, eqb-true (length (x ∷ t)) 0 e))

-- ---- kinds of numbers alone

module _ (v : Values) where
  seat : Same 1 (Seat v.first v.second) v
  unfolding layout layout_of shape_of sent_arguments sent arguments le sendable allowed_all sendable_text is_utf8 zero_free text_of
  seat = record {
    kind = refl;
    laid = laid refl refl refl tt tt;
    told = λ t. refl;
    fits = λ t h. refl;
    sends = λ t h. (refl, none_of t (parts (shape_of 1) v t h).has);
  }

  done : Same 4 Done v
  unfolding layout layout_of shape_of sent_arguments sent arguments le sendable allowed_all sendable_text is_utf8 zero_free text_of
  done = record {
    kind = refl;
    laid = laid refl refl refl tt tt;
    told = λ t. refl;
    fits = λ t h. refl;
    sends = λ t h. (refl, none_of t (parts (shape_of 4) v t h).has);
  }

  destroyed : Same 5 (Destroyed v.first) v
  unfolding layout layout_of shape_of sent_arguments sent arguments le sendable allowed_all sendable_text is_utf8 zero_free text_of
  destroyed = record {
    kind = refl;
    laid = laid refl refl refl tt tt;
    told = λ t. refl;
    fits = λ t h. refl;
    sends = λ t h. (refl, none_of t (parts (shape_of 5) v t h).has);
  }

  device : Same 6 (Device v.first v.second) v
  unfolding layout layout_of shape_of sent_arguments sent arguments le sendable allowed_all sendable_text is_utf8 zero_free text_of
  device = record {
    kind = refl;
    laid = laid refl refl refl tt tt;
    told = λ t. refl;
    fits = λ t h. refl;
    sends = λ t h. (refl, none_of t (parts (shape_of 6) v t h).has);
  }

  resumed : Same 9 (Resumed v.first) v
  unfolding layout layout_of shape_of sent_arguments sent arguments le sendable allowed_all sendable_text is_utf8 zero_free text_of
  resumed = record {
    kind = refl;
    laid = laid refl refl refl tt tt;
    told = λ t. refl;
    fits = λ t h. refl;
    sends = λ t h. (refl, none_of t (parts (shape_of 9) v t h).has);
  }

  paused : Same 10 (Paused v.first) v
  unfolding layout layout_of shape_of sent_arguments sent arguments le sendable allowed_all sendable_text is_utf8 zero_free text_of
  paused = record {
    kind = refl;
    laid = laid refl refl refl tt tt;
    told = λ t. refl;
    fits = λ t h. refl;
    sends = λ t h. (refl, none_of t (parts (shape_of 10) v t h).has);
  }

  start : Same 11 (StartEmulating v.first v.second) v
  unfolding layout layout_of shape_of sent_arguments sent arguments le sendable allowed_all sendable_text is_utf8 zero_free text_of
  start = record {
    kind = refl;
    laid = laid refl refl refl tt tt;
    told = λ t. refl;
    fits = λ t h. refl;
    sends = λ t h. (refl, none_of t (parts (shape_of 11) v t h).has);
  }

  stop : Same 12 (StopEmulating v.first) v
  unfolding layout layout_of shape_of sent_arguments sent arguments le sendable allowed_all sendable_text is_utf8 zero_free text_of
  stop = record {
    kind = refl;
    laid = laid refl refl refl tt tt;
    told = λ t. refl;
    fits = λ t h. refl;
    sends = λ t h. (refl, none_of t (parts (shape_of 12) v t h).has);
  }

  frame : Same 13 (Frame v.first v.second) v
  unfolding layout layout_of shape_of sent_arguments sent arguments le sendable allowed_all sendable_text is_utf8 zero_free text_of
  frame = record {
    kind = refl;
    laid = laid refl refl refl tt tt;
    told = λ t. refl;
    fits = λ t h. refl;
    sends = λ t h. (refl, none_of t (parts (shape_of 13) v t h).has);
  }

  callback-done : Same 15 (CallbackDone v.first) v
  unfolding layout layout_of shape_of sent_arguments sent arguments le sendable allowed_all sendable_text is_utf8 zero_free text_of
  callback-done = record {
    kind = refl;
    laid = laid refl refl refl tt tt;
    told = λ t. refl;
    fits = λ t h. refl;
    sends = λ t h. (refl, none_of t (parts (shape_of 15) v t h).has);
  }

  handshake-version : Same 16 (HandshakeVersion v.first) v
  unfolding layout layout_of shape_of sent_arguments sent arguments le sendable allowed_all sendable_text is_utf8 zero_free text_of
  handshake-version = record {
    kind = refl;
    laid = laid refl refl refl tt tt;
    told = λ t. refl;
    fits = λ t h. refl;
    sends = λ t h. (refl, none_of t (parts (shape_of 16) v t h).has);
  }

  connection : Same 18 (Connection v.first v.second v.third) v
  unfolding layout layout_of shape_of sent_arguments sent arguments le sendable allowed_all sendable_text is_utf8 zero_free text_of
  connection = record {
    kind = refl;
    laid = laid refl refl refl tt tt;
    told = λ t. refl;
    fits = λ t h. refl;
    sends = λ t h. (refl, none_of t (parts (shape_of 18) v t h).has);
  }

  -- ---- kinds that have a number of an interface or a device type

  capability : Same 3 (Capability v.first v.second) v
  unfolding layout layout_of shape_of sent_arguments sent arguments le sendable allowed_all sendable_text is_utf8 zero_free text_of
  capability = record {
    kind = refl;
    laid = laid refl refl refl tt tt;
    told = λ t. ap (λ (l : List ℕ). uint64 v.first ++ l) (sym (append-nil (string (interface_name v.second))));
    fits = λ t h. rw h;
    sends = λ t h. ((parts (shape_of 3) v t h).second, none_of t (parts (shape_of 3) v t h).has);
  }

  device_type_lem : Same 7 (DeviceType v.first) v
  unfolding layout layout_of shape_of sent_arguments sent arguments le sendable allowed_all sendable_text is_utf8 zero_free text_of
  device_type_lem = record {
    kind = refl;
    laid = laid refl refl refl tt tt;
    told = λ t. refl;
    fits = λ t h. rw h;
    sends = λ t h. ((parts (shape_of 7) v t h).first, none_of t (parts (shape_of 7) v t h).has);
  }

  interface : Same 8 (Interface v.first v.second v.third) v
  unfolding layout layout_of shape_of sent_arguments sent arguments le sendable allowed_all sendable_text is_utf8 zero_free text_of
  interface = record {
    kind = refl;
    laid = laid refl refl refl tt tt;
    told = λ t. refl;
    fits = λ t h. rw h;
    sends = λ t h. ((parts (shape_of 8) v t h).second, none_of t (parts (shape_of 8) v t h).has);
  }

  interface_version_lem : Same 17 (InterfaceVersion v.first v.second) v
  unfolding layout layout_of shape_of sent_arguments sent arguments le sendable allowed_all sendable_text is_utf8 zero_free text_of
  interface_version_lem = record {
    kind = refl;
    laid = laid refl refl refl tt tt;
    told = λ t. refl;
    fits = λ t h. rw h;
    sends = λ t h. ((parts (shape_of 17) v t h).first, none_of t (parts (shape_of 17) v t h).has);
  }

  -- ---- kinds with a text

  name : Same 2 Name v
  unfolding layout layout_of shape_of sent_arguments sent arguments le sendable allowed_all sendable_text is_utf8 zero_free text_of
  name = record {
    kind = refl;
    laid = laid refl refl refl tt tt;
    told = λ t. sym (append-nil (string t));
    fits = λ t h. h;
    sends = λ t h. ((parts (shape_of 2) v t h).text, refl);
  }

disconnected : (x y : ℕ) (b : Bool) → Same 14 (Disconnected x y b) (values_of x y (cond b 128 0))
unfolding layout layout_of shape_of sent_arguments sent arguments le sendable allowed_all sendable_text is_utf8 zero_free text_of
disconnected x y true =
    record {
      kind = refl;
      laid = laid-disconnected x y true;
      told = λ t. refl;
      fits = λ t h. h;
      sends = λ t h. (h, refl);
    }
disconnected x y false =
    record {
      kind = refl;
      laid = laid-disconnected x y false;
      told = λ t. refl;
      fits = λ t h. let q : between 0 5 y ≡ true = (both_hold h).0 in rw q;
      sends = λ t h. let p = parts (shape_of 14) (values_of x y 0) t h in (rw p.second, none_of t p.third);
    }

-- ---- every event has values, and values that can be sent are an event's

pub every : (e : Event) → (v : Values) × Same (layout e).kind e v
unfolding layout
every (Seat x y) = (values_of x y 0, seat (values_of x y 0))
every Name = (values_of 0 0 0, name (values_of 0 0 0))
every (Capability x y) = (values_of x y 0, capability (values_of x y 0))
every Done = (values_of 0 0 0, done (values_of 0 0 0))
every (Destroyed x) = (values_of x 0 0, destroyed (values_of x 0 0))
every (Device x y) = (values_of x y 0, device (values_of x y 0))
every (DeviceType x) = (values_of x 0 0, device_type_lem (values_of x 0 0))
every (Interface x y z) = (values_of x y z, interface (values_of x y z))
every (Resumed x) = (values_of x 0 0, resumed (values_of x 0 0))
every (Paused x) = (values_of x 0 0, paused (values_of x 0 0))
every (StartEmulating x y) = (values_of x y 0, start (values_of x y 0))
every (StopEmulating x) = (values_of x 0 0, stop (values_of x 0 0))
every (Frame x y) = (values_of x y 0, frame (values_of x y 0))
every (Disconnected x y b) = (values_of x y (cond b 128 0), disconnected x y b)
every (CallbackDone x) = (values_of x 0 0, callback-done (values_of x 0 0))
every (HandshakeVersion x) = (values_of x 0 0, handshake-version (values_of x 0 0))
every (InterfaceVersion x y) = (values_of x y 0, interface_version_lem (values_of x y 0))
every (Connection x y z) = (values_of x y z, connection (values_of x y z))

-- a family at a number: at this one, or at a later
module _ (P : ℕ → Type 0) (k : ℕ) where
  from : (n : ℕ) → n ≤ k → P n → (n < k → P k) → P k
  from n l p rest = dite (dec_lt n k) rest (λ m. let e : n ≡ k = omega arith in subst P e p)

explanation : (z n : ℕ) → explains z n ≡ true → (b : Bool) × (z ≡ cond b 128 0)
explanation z n e = go (eqb z 128) refl
  where
    go : (b : Bool) → eqb z 128 ≡ b → (b : Bool) × (z ≡ cond b 128 0)
    go true p = (true, eqb-true z 128 p)
    go false p = (false, eqb-true z 0 (both_hold (rw p at e)).0)

abbrev Has : ℕ → Type 0
Has k = (v : Values) (t : List ℕ) → allowed_all (shape_of k) v t ≡ true → (e : Event) × Same k e v

explained : Has 14
unfolding shape_of
explained v t h =
    let x = explanation v.third (length t) (parts (shape_of 14) v t h).third in
    let same = disconnected v.first v.second x.0 in
    (Disconnected v.first v.second x.0, rw (← x.1) at same)

pub some : (k : ℕ) → 0 < k → k < 19 → Has k
some k least most =
    from Has k 1 least (λ v t h. (Seat v.first v.second, seat v)) λ n1.
    from Has k 2 n1 (λ v t h. (Name, name v)) λ n2.
    from Has k 3 n2 (λ v t h. (Capability v.first v.second, capability v)) λ n3.
    from Has k 4 n3 (λ v t h. (Done, done v)) λ n4.
    from Has k 5 n4 (λ v t h. (Destroyed v.first, destroyed v)) λ n5.
    from Has k 6 n5 (λ v t h. (Device v.first v.second, device v)) λ n6.
    from Has k 7 n6 (λ v t h. (DeviceType v.first, device_type_lem v)) λ n7.
    from Has k 8 n7 (λ v t h. (Interface v.first v.second v.third, interface v)) λ n8.
    from Has k 9 n8 (λ v t h. (Resumed v.first, resumed v)) λ n9.
    from Has k 10 n9 (λ v t h. (Paused v.first, paused v)) λ n10.
    from Has k 11 n10 (λ v t h. (StartEmulating v.first v.second, start v)) λ n11.
    from Has k 12 n11 (λ v t h. (StopEmulating v.first, stop v)) λ n12.
    from Has k 13 n12 (λ v t h. (Frame v.first v.second, frame v)) λ n13.
    from Has k 14 n13 explained λ n14.
    from Has k 15 n14 (λ v t h. (CallbackDone v.first, callback-done v)) λ n15.
    from Has k 16 n15 (λ v t h. (HandshakeVersion v.first, handshake-version v)) λ n16.
    from Has k 17 n16 (λ v t h. (InterfaceVersion v.first v.second, interface_version_lem v)) λ n17.
    from Has k 18 n17 (λ v t h. (Connection v.first v.second v.third, connection v)) λ n18.
    absurd (omega arith)

-- no event's kind is 0
pub kind-least : (e : Event) → 0 < (layout e).kind
unfolding layout
kind-least (Seat x y) = omega arith
kind-least Name = omega arith
kind-least (Capability x y) = omega arith
kind-least Done = omega arith
kind-least (Destroyed x) = omega arith
kind-least (Device x y) = omega arith
kind-least (DeviceType x) = omega arith
kind-least (Interface x y z) = omega arith
kind-least (Resumed x) = omega arith
kind-least (Paused x) = omega arith
kind-least (StartEmulating x y) = omega arith
kind-least (StopEmulating x) = omega arith
kind-least (Frame x y) = omega arith
kind-least (Disconnected x y b) = omega arith
kind-least (CallbackDone x) = omega arith
kind-least (HandshakeVersion x) = omega arith
kind-least (InterfaceVersion x y) = omega arith
kind-least (Connection x y z) = omega arith

-- ---- the record of the values

module _ {k : ℕ} {e : Event} {v : Values} (same : Same k e v) where
  -- its bytes
  pub laid_by : (object : ℕ) (t : List ℕ)
      → event_record object e t ≡ start_of object (fields_of k (shape_of k) v (layout e).text) (fixed_size (shape_of k) + length (text_of e t)) ++ text_of e t
  laid_by object t = record_is same.laid object t refl
