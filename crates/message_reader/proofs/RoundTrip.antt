-- Records and messages, each got back from the other: neither stands for two. Assumes nothing.
use Prim.Native.Nat.{ℕ, ◌+◌, ◌/◌, ◌≤◌, ◌<◌}
use mathlib.Core.Bool.{Bool, true, false, ◌||◌, cond}
use mathlib.Core.List.{List}
use mathlib.Core.Path.{◌≡◌, refl, ap, ◌∙◌}
use native.Mathlib.Omega.{arith}
use borrow.Author.Tests.{leb-true, eqb-true}
use lib.Dec.{eqb, leb}
use lib.ListN.{length, get_or, take, drop, length-append, length-drop}
use lib.Seq.{take_at}
use Rattle.wire.specs.Bits.{splice}
use Rattle.event_messages.specs.Message.{message}
use Rattle.event_messages.specs.Shape.{shape_of, fixed_size, textual, sent_arguments}
use Rattle.event_messages.specs.Stands.{Turned}
use Rattle.event_messages.specs.declared.MessageError.{MessageError}
use Rattle.event_messages.specs.Written.{Written}
use Rattle.std.specs.Prelude.{Ok}
use Rattle.event_messages.proofs.Events.{parts}
use Rattle.event_messages.proofs.Tables.{upto, at, kind-most}
use Rattle.message_writer.specs.Number.{big_at, values_in}
use Rattle.message_writer.proofs.Arguments.{text-short}
use Rattle.message_writer.proofs.Bytes.{length-le}
use Rattle.message_writer.proofs.Normal.{normal, written_once}
use Rattle.message_reader.specs.RoundTrip.{Gives, ReadWritten, WrittenRead, Lengths}
use Rattle.message_reader.proofs.Again.{length_most}
use Rattle.message_reader.proofs.Back.{one_record}

-- ---- what was written

module _ {Asked : List ℕ → Type 0} {refusal : MessageError} {out later : List ℕ} where
  -- bytes that were asked for stand at the front of the buffer
  wrote : {w : Written} {n : ℕ} → Turned Asked refusal out later w → w ≡ Ok n → Asked (take n later)
  unfolding splice
  wrote {w} {n} (Turned.given {bytes} a l e) p =
      let k : length bytes ≡ n = cc in
      rw (e, ← k, take_at bytes (drop (0 + length bytes) out) (length bytes) refl) a
  wrote (Turned.short a l e) p = absurd (let z : ◌≡◌ {A = ℕ} 0 1 = cc in omega arith)
  wrote (Turned.none nothing e) p = absurd (let z : ◌≡◌ {A = ℕ} 0 1 = cc in omega arith)

  -- where only these bytes are asked for, and there is room, it is they that are written
  gives : {w : Written} (r : List ℕ) → Asked r → ((b : List ℕ) → Asked b → b ≡ r) → length r ≤ length out → Turned Asked refusal out later w → Gives r out later w
  gives r is once room (Turned.given {bytes} a l e) =
      let k = once bytes a in
      (ap (λ (b : List ℕ). Ok (length b)) k, e ∙ ap (λ (b : List ℕ). splice out 0 b) k)
  gives r is once room (Turned.short {bytes} a l e) = absurd (omega (arith, ap (λ (b : List ℕ). length b) (once bytes a)))
  gives r is once room (Turned.none nothing e) = absurd (nothing r is)

pub read_written : ReadWritten
read_written i n r out later back after w wrote_it read room =
    let st = wrote wrote_it refl in
    gives r st (λ b x. one_record i (take n later) b r x st) room read

pub written_read : WrittenRead
written_read i n m out later again after w read_it written room =
    let st = wrote read_it refl in
    gives m st (λ b x. written_once x st) room written

-- ---- lengths

-- a record that has a text has at most 19 bytes before it
fixed_test : upto (λ k. cond (textual (shape_of k)) (leb (fixed_size (shape_of k)) 19) (leb (fixed_size (shape_of k)) 273)) 19 ≡ true
unfolding shape_of
fixed_test = refl

within : (b : Bool) (fixed size : ℕ) → cond b (leb fixed 19) (leb fixed 273) ≡ true → b || eqb size 0 ≡ true → size ≤ 254 → fixed + size ≤ 273
within true fixed size h has l = omega (arith, leb-true fixed 19 h)
within false fixed size h has l = omega (arith, leb-true fixed 273 h, eqb-true size 0 has)

length-message : (object opcode : ℕ) (a : List ℕ) → length (message object opcode a) ≡ 16 + length a
unfolding message
length-message object opcode a = simp (length-append, length-le) (omega arith)

pub lengths : Lengths
lengths i r m st =
    let x = normal st in
    let k = get_or r 0 0 / 8 in
    let s = shape_of k in
    let t = drop (fixed_size s) r in
    let v = values_in r s in
    let below : k < 19 = omega (arith, x.has, kind-most i x.opcode) in
    let p = parts s v t x.fits in
    let fixed = within (textual s) (fixed_size s) (length t) (at (λ k. cond (textual (shape_of k)) (leb (fixed_size (shape_of k)) 19) (leb (fixed_size (shape_of k)) 273)) 19 fixed_test k below) p.has (text-short t p.text) in (
      omega (arith, ap (λ (l : List ℕ). length l) x.told, length-message (big_at r 2 8) x.opcode (sent_arguments s v t), length_most k v t below refl x.fits),
      omega (arith, length-drop (fixed_size s) r, x.whole),
    )
