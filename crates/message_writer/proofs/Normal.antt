-- A record's parts tell what its message is: what a record that stands for a message has, and the other way round. Assumes nothing.
use Prim.Native.Nat.{ℕ, ◌+◌, ◌*◌, ◌/◌, ◌%◌, ◌^◌, ◌≤◌, ◌<◌}
use mathlib.Core.Bool.{Bool, true, false, false≢true}
use mathlib.Core.List.{List, ◌++◌, append_assoc}
use mathlib.Core.Path.{◌≡◌, refl, sym, ap, ◌∙◌}
use native.Mathlib.Omega.{arith}
use lib.ListN.{length, get_or, take, drop, length-append, length-drop, take-append-drop}
use lib.Seq.{take_at, drop_at, drop-drop, get_or-drop}
use Rattle.wire.specs.Bits.{be}
use Rattle.wire.specs.Fields.{start}
use Rattle.wire.specs.Record.{layout, text_of}
use Rattle.wire.proofs.Bytes.{length-be}
use Rattle.event_messages.specs.Fields.{fields_of}
use Rattle.event_messages.specs.Message.{uint32, message}
use Rattle.event_messages.specs.Opcode.{HasOpcode}
use Rattle.event_messages.specs.Shape.{shape_of, width, fixed_size, sent_arguments, allowed_all}
use Rattle.event_messages.specs.Stands.{Stands}
use Rattle.event_messages.specs.Table.{kind_of}
use Rattle.event_messages.specs.declared.EventArgument.{EventArgument}
use Rattle.event_messages.specs.declared.EventArgument.TheVariants.{None, Uint32, Uint64, Interface, Reason, DeviceType, Text, Explanation}
use Rattle.std.specs.Prelude.{Some}
use Rattle.event_messages.specs.declared.Shape.{Shape}
use Rattle.event_messages.specs.declared.Values.{Values}
use Rattle.event_messages.proofs.Events.{every, some, kind-least, laid_by, parts}
use Rattle.event_messages.proofs.Tables.{kind-most, only_opcode}
use Rattle.message_writer.specs.Number.{big_at, values_in}
use Rattle.message_writer.proofs.Arguments.{text-short}
use Rattle.message_writer.proofs.Numbers.{joined-be, big_more, be-joined}
use Rattle.message_writer.proofs.Reduced.{reduced, le-mod, all_reduced, same_arguments}

-- ---- a list from a place on

module _ (l : List ℕ) (n : ℕ) where
  -- behind the bytes that stand there
  past : (m : ℕ) (p q : List ℕ) → drop n l ≡ p ++ q → length p ≡ m → drop (n + m) l ≡ q
  past m p q e h = sym (drop-drop m n l) ∙ ap (λ (r : List ℕ). drop m r) e ∙ drop_at p q m h

  -- the number that stands there
  big_there : (k x : ℕ) (q : List ℕ) → drop n l ≡ be k x ++ q → big_at l n k ≡ x % 2 ^ (8 * k)
  unfolding big_at
  big_there k x q e = rw (e, take_at (be k x) q k (length-be k x)) (joined-be k x)

-- ---- the parts of a record's bytes

module _ (object k n : ℕ) (s : Shape) (v : Values) (text : Bool) (t : List ℕ) where
  abbrev bytes : List ℕ
  bytes = start object (fields_of k s v text) n ++ t

  abbrev third : List ℕ
  third = be (width s.third) v.third ++ t

  abbrev second : List ℕ
  second = be (width s.second) v.second ++ third

  abbrev first : List ℕ
  first = be (width s.first) v.first ++ second

  long : length bytes ≡ fixed_size s + length t
  long = simp (length-append, length-be) (omega arith)

  at_object : drop 2 bytes ≡ be 8 object ++ first
  at_object = simp append_assoc (drop_at (be 2 (k * 2048 + n % 2048)) (be 8 object ++ first) 2 (length-be 2 (k * 2048 + n % 2048)))

  at_first : drop 10 bytes ≡ first
  at_first = past bytes 2 8 (be 8 object) first at_object (length-be 8 object)

  at_second : drop (10 + width s.first) bytes ≡ second
  at_second = past bytes 10 (width s.first) (be (width s.first) v.first) second at_first (length-be (width s.first) v.first)

  at_third : drop (10 + (width s.first + width s.second)) bytes ≡ third
  at_third =
      let e : 10 + width s.first + width s.second ≡ 10 + (width s.first + width s.second) = omega arith in
      rw e at (past bytes (10 + width s.first) (width s.second) (be (width s.second) v.second) third at_second (length-be (width s.second) v.second))

  at_text : drop (fixed_size s) bytes ≡ t
  at_text =
      let e : 10 + (width s.first + width s.second) + width s.third ≡ fixed_size s = omega arith in
      rw e at (past bytes (10 + (width s.first + width s.second)) (width s.third) (be (width s.third) v.third) t at_third (length-be (width s.third) v.third))

  object_is : big_at bytes 2 8 ≡ object % 2 ^ 64
  object_is = big_there bytes 2 8 object first at_object

  values_are : values_in bytes s ≡ reduced s v
  unfolding values_in
  values_are =
      rw (
        big_there bytes 10 (width s.first) v.first second at_first,
        big_there bytes (10 + width s.first) (width s.second) v.second third at_second,
        big_there bytes (10 + (width s.first + width s.second)) (width s.third) v.third t at_third,
      )

  kind_is : k < 32 → get_or bytes 0 0 / 8 ≡ k
  unfolding be
  kind_is h = omega arith

  said_is : k < 32 → n < 2048 → get_or bytes 0 0 % 8 * 256 + get_or bytes 1 0 ≡ n
  unfolding be
  said_is h l = omega arith

-- ---- what stands for a message, by the parts of its bytes

pub record Normal (interface : ℕ) (r m : List ℕ) : Type 0 where
  pub long : 10 ≤ length r
  pub said : get_or r 0 0 % 8 * 256 + get_or r 1 0 ≡ length r
  pub opcode : ℕ
  pub kind : 0 < get_or r 0 0 / 8
  pub has : kind_of interface opcode ≡ get_or r 0 0 / 8
  pub whole : fixed_size (shape_of (get_or r 0 0 / 8)) ≤ length r
  pub fits : allowed_all (shape_of (get_or r 0 0 / 8)) (values_in r (shape_of (get_or r 0 0 / 8))) (drop (fixed_size (shape_of (get_or r 0 0 / 8))) r) ≡ true
  pub told : m ≡ message (big_at r 2 8) opcode (sent_arguments (shape_of (get_or r 0 0 / 8)) (values_in r (shape_of (get_or r 0 0 / 8))) (drop (fixed_size (shape_of (get_or r 0 0 / 8))) r))

width-most : (a : EventArgument) → width a ≤ 8
width-most None = omega arith
width-most Uint32 = omega arith
width-most Uint64 = omega arith
width-most Interface = omega arith
width-most Reason = omega arith
width-most DeviceType = omega arith
width-most Text = omega arith
width-most Explanation = omega arith

-- a message says of its object's id what a record can hold
pub message-reduced : (object opcode : ℕ) (a : List ℕ) → message (object % 2 ^ 64) opcode a ≡ message object opcode a
unfolding message
message-reduced object opcode a = ap (λ (l : List ℕ). l ++ (uint32 (16 + length a) ++ (uint32 opcode ++ a))) (le-mod 8 object)

module _ (interface object opcode k : ℕ) (v : Values) (text : Bool) (t : List ℕ) (least : 0 < k) (most : k < 32) (has : kind_of interface opcode ≡ k) (fits : allowed_all (shape_of k) v t ≡ true) where
  abbrev s : Shape
  s = shape_of k

  abbrev n : ℕ
  n = fixed_size s + length t

  abbrev r : List ℕ
  r = bytes object k n s v text t

  pub normal_bytes : Normal interface r (message object opcode (sent_arguments s v t))
  normal_bytes =
      let is = kind_is object k n s v text t most in
      let l = long object k n s v text t in
      let w1 = width-most s.first in
      let w2 = width-most s.second in
      let w3 = width-most s.third in
      let short = text-short t (parts s v t fits).text in
      record {
        long = rw l (omega arith);
        said = said_is object k n s v text t most (omega arith) ∙ sym l;
        opcode = opcode;
        kind = rw is least;
        has = has ∙ sym is;
        whole = rw (is, l) (omega arith);
        fits = rw (is, values_are object k n s v text t, at_text object k n s v text t) (all_reduced s v t fits);
        told = rw (is, values_are object k n s v text t, at_text object k n s v text t, object_is object k n s v text t, same_arguments s v t fits, message-reduced object opcode (sent_arguments s v t));
      }

pub normal : {interface : ℕ} {r m : List ℕ} → Stands interface r m → Normal interface r m
normal {interface} {r} {m} st =
    let e = st.event in
    let k = (layout e).kind in
    let v = (every e).0 in
    let same = (every e).1 in
    let t = text_of e st.text in
    let o = st.object in
    let op = st.opcode in
    let x = normal_bytes interface o op k v (layout e).text t (kind-least e) same.laid.small st.has (same.fits st.text st.fits) in
    rw (st.laid, st.told, laid_by same o st.text, same.told st.text) x

-- one record stands for one message on an interface
pub written_once : {interface : ℕ} {r m m' : List ℕ} → Stands interface r m → Stands interface r m' → m ≡ m'
written_once {interface} st st' =
    let a = normal st in
    let b = normal st' in
    let e : a.opcode ≡ b.opcode = only_opcode interface a.opcode b.opcode (rw a.has a.kind) (a.has ∙ sym b.has) in
    a.told ∙ rw e (sym b.told)

-- ---- and the other way round

module _ (r : List ℕ) (octets : (i : ℕ) → get_or r i 0 < 256) where
  -- so many bytes at a place are those of their number
  there : (at k : ℕ) → at + k ≤ length r → be k (big_at r at k) ≡ take k (drop at r)
  unfolding big_at
  there at k h = be-joined (drop at r) (λ i. rw (get_or-drop at r i 0) (octets (at + i))) k (omega (arith, length-drop at r))

  -- what stands at a place and behind it
  split_there : (at k : ℕ) → at + k ≤ length r → drop at r ≡ be k (big_at r at k) ++ drop (at + k) r
  split_there at k h = rw (there at k h, ← drop-drop k at r) (sym (take-append-drop k (drop at r)))

  -- the first two bytes have the kind and the length
  head_there : 10 ≤ length r → get_or r 0 0 % 8 * 256 + get_or r 1 0 ≡ length r → big_at r 0 2 ≡ get_or r 0 0 / 8 * 2048 + length r % 2048
  unfolding big_at
  head_there h e =
      let a : big_at r 0 2 ≡ big_at r 0 1 * 256 + get_or r 1 0 = big_more r 0 1 (omega arith) in
      let b : big_at r 0 1 ≡ 0 * 256 + get_or r 0 0 = big_more r 0 0 (omega arith) in
      let x = octets 0 in
      let y = octets 1 in
      omega arith

  module _ (k : ℕ) (kind : get_or r 0 0 / 8 ≡ k) (ten : 10 ≤ length r) (said : get_or r 0 0 % 8 * 256 + get_or r 1 0 ≡ length r) (enough : fixed_size (shape_of k) ≤ length r) where
    abbrev shape : Shape
    shape = shape_of k

    -- its parts, one behind another
    parted : (text : Bool) → r ≡ start (big_at r 2 8) (fields_of k shape (values_in r shape) text) (fixed_size shape + length (drop (fixed_size shape) r)) ++ drop (fixed_size shape) r
    unfolding values_in
    parted text =
        let w1 = width shape.first in
        let w2 = width shape.second in
        let w3 = width shape.third in
        let n : fixed_size shape + length (drop (fixed_size shape) r) ≡ length r = omega (arith, length-drop (fixed_size shape) r) in
        let e2 : 10 + w1 + w2 ≡ 10 + (w1 + w2) = omega arith in
        let e3 : 10 + (w1 + w2) + w3 ≡ fixed_size shape = omega arith in
        let zero = split_there 0 2 (omega arith) in
        let two = split_there 2 8 (omega arith) in
        let first = split_there 10 w1 (omega arith) in
        let second = rw e2 at (split_there (10 + w1) w2 (omega arith)) in
        let third = rw e3 at (split_there (10 + (w1 + w2)) w3 (omega arith)) in
        let b1 = be w1 (big_at r 10 w1) in
        let b2 = be w2 (big_at r (10 + w1) w2) in
        let head : big_at r 0 2 ≡ k * 2048 + (fixed_size shape + length (drop (fixed_size shape) r)) % 2048 = head_there ten said ∙ rw (kind, n) in
        zero
        ∙ ap (λ (l : List ℕ). be 2 (big_at r 0 2) ++ l)
        (two
        ∙ ap (λ (l : List ℕ). be 8 (big_at r 2 8) ++ l) (first ∙ ap (λ (l : List ℕ). b1 ++ l) (second ∙ ap (λ (l : List ℕ). b2 ++ l) third)))
        ∙ rw head (simp append_assoc)

  pub stands : {interface : ℕ} {m : List ℕ} → Normal interface r m → Stands interface r m
  stands {interface} {m} x =
      let k = get_or r 0 0 / 8 in
      let s = shape_of k in
      let v = values_in r s in
      let t = drop (fixed_size s) r in
      let most = kind-most interface x.opcode in
      let e = some k x.kind (omega (arith, x.has)) v t x.fits in
      let same = e.1 in
      let sends = same.sends t x.fits in
      record {
        object = big_at r 2 8;
        opcode = x.opcode;
        event = e.0;
        text = t;
        has = x.has ∙ sym same.kind;
        fits = sends.0;
        laid = parted k refl x.long x.said x.whole (layout e.0).text ∙ sym (rw sends.1 at (laid_by same (big_at r 2 8) t));
        told = x.told ∙ ap (λ (a : List ℕ). message (big_at r 2 8) x.opcode a) (sym (rw sends.1 at (same.told t)));
      }

-- ---- what the code finds

module _ {interface fixed : ℕ} {r t : List ℕ} {s : Shape} {v : Values} (shaped : s ≡ shape_of (get_or r 0 0 / 8)) (sized : fixed ≡ fixed_size s) (valued : v ≡ values_in r s) (behind : t ≡ drop fixed r) where
  pub refused : allowed_all s v t ≡ false → (m : List ℕ) → Stands interface r m → ⊥
  refused n m st = false≢true (sym (rw (behind, valued, sized, shaped) at n) ∙ (normal st).fits)

  pub accepted : (opcode : ℕ) → 10 ≤ length r → get_or r 0 0 % 8 * 256 + get_or r 1 0 ≡ length r → HasOpcode interface (get_or r 0 0 / 8) (Some opcode) → fixed ≤ length r → allowed_all s v t ≡ true
      → ((i : ℕ) → get_or r i 0 < 256) → Stands interface r (message (big_at r 2 8) opcode (sent_arguments s v t))
  accepted opcode ten said has enough fits octets =
      stands r octets
      (record {
        long = ten;
        said = said;
        opcode = opcode;
        kind = has.0;
        has = has.1;
        whole = rw (sized, shaped) at enough;
        fits = rw (behind, valued, sized, shaped) at fits;
        told = rw (behind, valued, sized, shaped);
      })
