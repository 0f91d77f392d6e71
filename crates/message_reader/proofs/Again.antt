-- A message is compared with the one that is written of its values. Assumes nothing.
use Prim.Native.Nat.{ℕ, ◌+◌, ◌≤◌, ◌<◌}
use mathlib.Core.Bool.{Bool, true, false, cond, not, false≢true}
use mathlib.Core.List.{List}
use mathlib.Core.Path.{◌≡◌, refl, sym, ◌∙◌}
use native.Mathlib.Omega.{arith}
use borrow.Author.Tests.{leb-true, not-true}
use lib.Dec.{eqb, leb}
use lib.ListN.{length, take, length-append}
use Rattle.wire.specs.Put.{Wrote}
use Rattle.wire.proofs.Splices.{splice_here}
use Rattle.eiproto.specs.Interface.{interface_name}
use Rattle.event_messages.specs.Message.{string, null, message}
use Rattle.event_messages.specs.Shape.{shape_of, sent, sent_arguments, allowed, allowed_all}
use Rattle.event_messages.specs.declared.EventArgument.{EventArgument}
use Rattle.event_messages.specs.declared.EventArgument.TheVariants.{None, Uint32, Uint64, Interface, Reason, DeviceType, Text, Explanation}
use Rattle.event_messages.specs.declared.Shape.{Shape}
use Rattle.event_messages.specs.declared.Values.{Values}
use Rattle.event_messages.proofs.Events.{parts}
use Rattle.event_messages.proofs.Tables.{upto, at as upto_at}
use Rattle.message_writer.proofs.Arguments.{text-short, length-arguments}
use Rattle.message_writer.proofs.Bytes.{length-le, length-string}
use Rattle.message_writer.proofs.Names.{name-short}
use Rattle.message_reader.specs.Back.{Said}

-- ---- no message has more than 284 bytes

-- the most bytes of a value
abbrev most : EventArgument → ℕ
most None = 0
most Uint32 = 4
most Uint64 = 8
most Interface = 24
most Reason = 4
most DeviceType = 4
most Text = 260
most Explanation = 260

string-most : (t : List ℕ) → length t ≤ 254 → length (string t) ≤ 260
string-most t h = rw (length-string t) (omega arith)

sent-most : (a : EventArgument) (x : ℕ) (t : List ℕ) → length t ≤ 254 → allowed a x (length t) ≡ true → length (sent a x t) ≤ most a
unfolding sent
sent-most None x t h e = omega arith
sent-most Uint32 x t h e = omega arith
sent-most Uint64 x t h e = omega arith
sent-most Interface x t h e = rw (length-string (interface_name x)) (omega (arith, name-short x))
sent-most Reason x t h e = omega arith
sent-most DeviceType x t h e = omega arith
sent-most Text x t h e = string-most t h
sent-most Explanation x t h e = go (eqb x 128)
  where
    go : (b : Bool) → length (cond b (string t) null) ≤ 260
    go true = string-most t h
    go false = omega arith

abbrev most_all : Shape → ℕ
most_all s = most s.first + (most s.second + most s.third)

most_test : upto (λ k. leb (most_all (shape_of k)) 268) 19 ≡ true
unfolding shape_of
most_test = refl

pub length_most : (kind : ℕ) {s : Shape} (v : Values) (t : List ℕ) → kind < 19 → s ≡ shape_of kind → allowed_all s v t ≡ true → length (sent_arguments s v t) ≤ 268
length_most kind {s} v t k is allow =
    let h = parts s v t allow in
    let l = text-short t h.text in
    let m : most_all s ≤ 268 = rw is (leb-true _ _ (upto_at (λ k. leb (most_all (shape_of k)) 268) 19 most_test kind k)) in
    omega (arith, length-arguments s v t, sent-most s.first v.first t l h.first, sent-most s.second v.second t l h.second, sent-most s.third v.third t l h.third)

-- ---- the two messages

length-message : (object opcode : ℕ) (xs : List ℕ) → length (message object opcode xs) ≡ 16 + length xs
unfolding message
length-message object opcode xs = simp (length-append, length-le) (omega arith)

module _ (m : List ℕ) (object opcode kind : ℕ) (v : Values) (t : List ℕ) {s : Shape} (is : s ≡ shape_of kind) where
  -- values that cannot be sent
  pub unsaid : {r : Bool} → r ≡ allowed_all s v t → not r ≡ true → (false ≡ true → Said m object opcode (shape_of kind) v t) × (Said m object opcode (shape_of kind) v t → false ≡ true)
  unsaid {r} e n = (λ z. absurd (false≢true z), λ x. sym (not-true r n) ∙ e ∙ rw is x.allows)

  -- values that can
  pub compared : {out later : List ℕ} {long end : ℕ} {r : Bool} → allowed_all s v t ≡ true → long ≡ 16 + length (sent_arguments s v t) → long ≤ length out
      → Wrote out later 0 (length (message object opcode (sent_arguments s v t))) (message object opcode (sent_arguments s v t)) end
      → (r ≡ true → m ≡ take long later) × (m ≡ take long later → r ≡ true)
      → (r ≡ true → Said m object opcode (shape_of kind) v t) × (Said m object opcode (shape_of kind) v t → r ≡ true)
  compared {out} {later} {long} allow l room wrote same =
      let bytes = message object opcode (sent_arguments s v t) in
      let n : length bytes ≡ long = length-message object opcode (sent_arguments s v t) ∙ sym l in
      let front : take long later ≡ bytes = rw (wrote.buffer, ← n) (splice_here out bytes 0 (omega arith)) in
      (λ h. record { allows = rw is at allow; told = rw is at (same.0 h ∙ front) }, λ x. same.1 (x.told ∙ rw (← is) (sym front)))
