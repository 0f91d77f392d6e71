-- What can be sent is sent as a record can hold it: a value modulo its width. Assumes nothing.
use Prim.Native.Nat.{ℕ, zero, suc, ◌*◌, ◌/◌, ◌%◌, ◌^◌, ◌<◌}
use mathlib.Core.Bool.{Bool, true, false, ◌&&◌}
use mathlib.Core.List.{List}
use mathlib.Core.Path.{◌≡◌, refl}
use native.Mathlib.Nat.{mul-suc, mod-eq_of_lt}
use native.Mathlib.Omega.{arith}
use borrow.Author.Tests.{leb-true, eqb-true}
use lib.Dec.{leb, eqb}
use lib.ListN.{length}
use lib.Pow.{field, mod-mod-pow}
use Rattle.event_messages.specs.Message.{le}
use Rattle.event_messages.specs.Shape.{width, explains, sent, sent_arguments, allowed, allowed_all, values_of}
use Rattle.event_messages.specs.declared.EventArgument.{EventArgument}
use Rattle.event_messages.specs.declared.EventArgument.TheVariants.{None, Uint32, Uint64, Interface, Reason, DeviceType, Text, Explanation}
use Rattle.event_messages.specs.declared.Shape.{Shape}
use Rattle.event_messages.specs.declared.Values.{Values}
use Rattle.event_messages.proofs.Events.{parts}
use Rattle.event_messages.proofs.Tests.{both_hold}

abbrev pub reduced : Shape → Values → Values
reduced s v = values_of (v.first % 2 ^ (8 * width s.first)) (v.second % 2 ^ (8 * width s.second)) (v.third % 2 ^ (8 * width s.third))

pub le-mod : (k x : ℕ) → le k (x % 2 ^ (8 * k)) ≡ le k x
unfolding le
le-mod zero x = refl
le-mod (suc k) x = rw (mul-suc 8 k, mod-mod-pow x (8 * k) 8, field x (8 * k) 8, le-mod k (x / 256))

-- a number that is small is its own rest
module _ (x : ℕ) where
  within : (least most w : ℕ) → most < w → leb least x && leb x most ≡ true → x % w ≡ x
  within least most w h e =
      let two : (leb least x ≡ true) × (leb x most ≡ true) = both_hold e in
      let l = leb-true x most two.1 in
      mod-eq_of_lt (omega arith)

  bit : (n : ℕ) → explains x n ≡ true → x % 256 ≡ x
  bit n e = go (eqb x 128) refl
    where
      go : (b : Bool) → eqb x 128 ≡ b → x % 256 ≡ x
      go true p = mod-eq_of_lt (omega (arith, eqb-true x 128 p))
      go false p =
          let two : (eqb x 0 ≡ true) × (eqb n 0 ≡ true) = both_hold (rw p at e) in
          mod-eq_of_lt (omega (arith, eqb-true x 0 two.0))

-- a value that can be sent: so can it be modulo its width, and it is the same bytes
pub allowed-reduced : (a : EventArgument) (x n : ℕ) → allowed a x n ≡ true → allowed a (x % 2 ^ (8 * width a)) n ≡ true
allowed-reduced None x n h = refl
allowed-reduced Uint32 x n h = refl
allowed-reduced Uint64 x n h = refl
allowed-reduced Interface x n h = rw (within x 1 12 256 (omega arith) h) h
allowed-reduced Reason x n h = rw (within x 0 5 (2 ^ 32) (omega arith) h) h
allowed-reduced DeviceType x n h = rw (within x 1 2 (2 ^ 32) (omega arith) h) h
allowed-reduced Text x n h = refl
allowed-reduced Explanation x n h = rw (bit x n h) h

pub sent-reduced : (a : EventArgument) (x n : ℕ) (t : List ℕ) → allowed a x n ≡ true → sent a (x % 2 ^ (8 * width a)) t ≡ sent a x t
unfolding sent
sent-reduced None x n t h = refl
sent-reduced Uint32 x n t h = le-mod 4 x
sent-reduced Uint64 x n t h = le-mod 8 x
sent-reduced Interface x n t h = rw (within x 1 12 256 (omega arith) h)
sent-reduced Reason x n t h = le-mod 4 x
sent-reduced DeviceType x n t h = le-mod 4 x
sent-reduced Text x n t h = refl
sent-reduced Explanation x n t h = rw (bit x n h)

-- the same of a shape's values
module _ (s : Shape) (v : Values) (t : List ℕ) (h : allowed_all s v t ≡ true) where
  pub all_reduced : allowed_all s (reduced s v) t ≡ true
  unfolding allowed_all
  all_reduced =
      let p = parts s v t h in
      rw (
        allowed-reduced s.first v.first (length t) p.first,
        allowed-reduced s.second v.second (length t) p.second,
        allowed-reduced s.third v.third (length t) p.third,
        p.has,
      ) p.text

  pub same_arguments : sent_arguments s (reduced s v) t ≡ sent_arguments s v t
  unfolding sent_arguments
  same_arguments =
      let p = parts s v t h in
      rw (
        sent-reduced s.first v.first (length t) t p.first,
        sent-reduced s.second v.second (length t) t p.second,
        sent-reduced s.third v.third (length t) t p.third,
      )
