-- The message of a record is read as that record, and no other message is read. Assumes nothing.
use Prim.Native.Nat.{ℕ, ◌+◌, ◌-◌, ◌%◌, ◌^◌, ◌≤◌, ◌<◌}
use mathlib.Core.Bool.{true}
use mathlib.Core.List.{List, ◌++◌}
use mathlib.Core.Logic.{dite}
use mathlib.Core.Path.{◌≡◌, refl, sym, ap, subst, ◌∙◌}
use native.Mathlib.Decide.{dec_lt}
use native.Mathlib.Omega.{arith}
use borrow.Author.Tests.{leb-true}
use lib.Dec.{leb}
use lib.ListN.{length, take, drop, length-append}
use Rattle.wire.specs.Fields.{numbers, start}
use Rattle.wire.specs.Put.{PutWhole}
use Rattle.wire.specs.Record.{layout, text_of, event_record}
use Rattle.wire.specs.declared.event.Event.{Event}
use Rattle.wire.proofs.Bytes.{length-be, be-mod}
use Rattle.wire.proofs.Splices.{fitted_all}
use Rattle.event_messages.specs.Message.{le, message}
use Rattle.event_messages.specs.Shape.{shape_of, width, fixed_size, sent_arguments, allowed_all}
use Rattle.event_messages.specs.Stands.{Stands, Turned}
use Rattle.event_messages.specs.Table.{kind_of}
use Rattle.event_messages.specs.declared.MessageError.{MessageError}
use Rattle.event_messages.specs.declared.Shape.{Shape}
use Rattle.event_messages.specs.declared.Values.{Values}
use Rattle.event_messages.specs.Written.{Written}
use Rattle.std.specs.Prelude.{Ok, Err}
use Rattle.event_messages.proofs.Events.{Same, kind-least, every, some, laid_by}
use Rattle.event_messages.proofs.Tables.{upto, at as upto_at, past_opcodes, kind-most}
use Rattle.message_writer.proofs.Normal.{message-reduced}
use Rattle.message_reader.specs.declared.Read.{Read}
use Rattle.message_reader.specs.Read.{word_at, double_at, values_read}
use Rattle.message_reader.specs.Back.{values_in, text_in, Said, record_of}
use Rattle.message_reader.proofs.Numbers.{behind, word-le, double_le}
use Rattle.message_reader.proofs.Values.{Alike, read_back}

-- ---- the table

size_test : upto (λ k. leb (width (shape_of k).first + (width (shape_of k).second + width (shape_of k).third)) 16) 19 ≡ true
unfolding shape_of
size_test = refl

-- no record has more than 16 bytes behind the object id, its text aside
shape_size : (k : ℕ) → k < 19 → width (shape_of k).first + (width (shape_of k).second + width (shape_of k).third) ≤ 16
shape_size k h = leb-true _ _ (upto_at (λ k. leb (width (shape_of k).first + (width (shape_of k).second + width (shape_of k).third)) 16) 19 size_test k h)

pub fixed-small : (kind : ℕ) {s : Shape} → s ≡ shape_of kind → kind < 19 → width s.first + (width s.second + width s.third) ≤ 16
fixed-small kind is h = rw is (shape_size kind h)

-- ---- the record written

length_of : (object kind : ℕ) (v : Values) (text : List ℕ) → length (record_of object kind v text) ≡ fixed_size (shape_of kind) + length text
unfolding record_of
length_of object kind v text = simp (length-append, length-be) (omega arith)

module _ (object kind : ℕ) (v : Values) (text : List ℕ) {s : Shape} (is : s ≡ shape_of kind) where
  -- the code's fields
  pub fields_so : {a b c : ℕ} → a ≡ width s.first → b ≡ width s.second → c ≡ width s.third
      → start object (numbers kind a v.first b v.second c v.third true) (10 + (a + (b + c)) + length text) ++ text ≡ record_of object kind v text
  unfolding record_of
  fields_so e f g = rw (e, f, g, is)

  pub no_room : (out : List ℕ) → length out < fixed_size s + length text → Turned (λ bytes. bytes ≡ record_of object kind v text) MessageError.Malformed out out (Err MessageError.ShortOut)
  no_room out h = Turned.short refl (rw (length_of object kind v text, ← is) h) refl

  pub record_put : {out later : List ℕ} {r : ℕ} → fixed_size s + length text ≤ length out → PutWhole out later 0 (record_of object kind v text) r
      → Turned (λ bytes. bytes ≡ record_of object kind v text) MessageError.Malformed out later (Ok (fixed_size s + length text))
  record_put {out} {later} h p =
      let l : length (record_of object kind v text) ≡ fixed_size s + length text = rw is (length_of object kind v text) in
      let f = fitted_all out 0 (record_of object kind v text) (omega arith) in
      rw (← l) (Turned.given refl (omega arith) (rw f at p.buffer))

-- what is asked for is these bytes
pub asked : {Asked : List ℕ → Type 0} {bytes out later : List ℕ} {w : Written} → Asked bytes → Turned (λ b. b ≡ bytes) MessageError.Malformed out later w → Turned Asked MessageError.Malformed out later w
asked {Asked} a (Turned.given e h l) = Turned.given (subst Asked (sym e) a) h l
asked {Asked} a (Turned.short e h l) = Turned.short (subst Asked (sym e) a) h l
asked a (Turned.none n l) = absurd (n _ refl)

-- ---- the message of values, by what is read of it

module _ (m : List ℕ) (object opcode : ℕ) (xs : List ℕ) (told : m ≡ message object opcode xs) where
  at_length : drop 8 m ≡ le 4 (16 + length xs) ++ (le 4 opcode ++ xs)
  unfolding message
  at_length = behind m 0 (le 8 object) (le 4 (16 + length xs) ++ (le 4 opcode ++ xs)) told refl

  at_opcode : drop 12 m ≡ le 4 opcode ++ xs
  unfolding le
  at_opcode = behind m 8 (le 4 (16 + length xs)) (le 4 opcode ++ xs) at_length refl

  at_arguments : drop 16 m ≡ xs
  unfolding le
  at_arguments = behind m 12 (le 4 opcode) xs at_opcode refl

  object-read : double_at m 0 ≡ object % 2 ^ 64
  unfolding message
  object-read = double_le m 0 object (le 4 (16 + length xs) ++ (le 4 opcode ++ xs)) told

  opcode-read : opcode < 12 → word_at m 12 ≡ opcode
  opcode-read h = word-le m 12 opcode xs at_opcode ∙ omega arith

-- what is read of a message that stands for a record
record Reads (bytes m : List ℕ) (kind : ℕ) (r : Read) : Type 0 where
  pub least : 0 < kind
  pub said : Said m (double_at m 0) (word_at m 12) (shape_of kind) (values_in r) (text_in m r)
  pub is : bytes ≡ record_of (double_at m 0) kind (values_in r) (text_in m r)

same_record : (m : List ℕ) (object k : ℕ) (v : Values) (t : List ℕ) (r : Read) → Alike m (shape_of k) v t r → double_at m 0 ≡ object % 2 ^ 64
    → record_of object k v t ≡ record_of (double_at m 0) k (values_in r) (text_in m r)
unfolding record_of values_in
same_record m object k v t r a id = rw (id, a.texts, a.first, a.second, a.third, be-mod 8 object)

laid_so : {k : ℕ} {e : Event} {v : Values} → Same k e v → (object : ℕ) (t : List ℕ) → event_record object e t ≡ record_of object k v (text_of e t)
unfolding record_of
laid_so same object t = laid_by same object t

module _ (interface : ℕ) (bytes m : List ℕ) (stands : Stands interface bytes m) where
  reads_as : (k : ℕ) (v : Values) (t : List ℕ) → kind_of interface stands.opcode ≡ k → 0 < k → allowed_all (shape_of k) v t ≡ true → m ≡ message stands.object stands.opcode (sent_arguments (shape_of k) v t)
      → bytes ≡ record_of stands.object k v t → (kind_of interface (word_at m 12) ≡ k) × Reads bytes m k (values_read m (shape_of k))
  reads_as k v t hk least allow told is =
      let object = stands.object in
      let opcode = stands.opcode in
      let s = shape_of k in
      let r = values_read m s in
      let small : opcode < 12 = dite (dec_lt opcode 12) (λ l. l) (λ n. absurd (omega (arith, past_opcodes interface opcode (omega arith)))) in
      let o = opcode-read m object opcode (sent_arguments s v t) told small in
      let id = object-read m object opcode (sent_arguments s v t) told in
      let a = read_back m s v t allow (at_arguments m object opcode (sent_arguments s v t) told) in (
        rw o hk,
        record {
          least = least;
          said = record { allows = rw a.texts a.fits; told = rw (o, id, a.texts, a.same) (told ∙ sym (message-reduced object opcode (sent_arguments s v t))) };
          is = is ∙ same_record m object k v t r a id;
        },
      )

  -- whatever stands for it
  reads : Reads bytes m (kind_of interface (word_at m 12)) (values_read m (shape_of (kind_of interface (word_at m 12))))
  reads =
      let e = stands.event in
      let text = stands.text in
      let x = every e in
      let p = reads_as (layout e).kind x.0 (text_of e text) stands.has (kind-least e) (x.1.fits text stands.fits)
      (stands.told ∙ ap (message stands.object stands.opcode) (x.1.told text)) (stands.laid ∙ laid_so x.1 stands.object text) in
      subst (λ k. Reads bytes m k (values_read m (shape_of k))) (sym p.0) p.1

-- a message stands for one record
pub one_record : (interface : ℕ) (m a b : List ℕ) → Stands interface a m → Stands interface b m → a ≡ b
one_record interface m a b s t = (reads interface a m s).is ∙ sym (reads interface b m t).is

-- ---- what the code decides by

-- the text, which the code takes by its ends
text_so : (m : List ℕ) (r : Read) → take (r.start + r.length - r.start) (drop r.start m) ≡ text_in m r
unfolding text_in
text_so m r =
    let k : r.start + r.length - r.start ≡ r.length = omega arith in
    rw k

module _ (interface : ℕ) (m : List ℕ) {opcode kind : ℕ} (ho : opcode ≡ word_at m 12) (hk : kind ≡ kind_of interface opcode) where
  kind_is : kind ≡ kind_of interface (word_at m 12)
  kind_is = hk ∙ ap (kind_of interface) ho

  pub kind-below : kind < 19
  kind-below = omega (arith, hk, kind-most interface opcode)

  pub no_kind : kind ≡ 0 → (bytes : List ℕ) → Stands interface bytes m → ⊥
  no_kind z bytes s = omega (arith, kind_is, (reads interface bytes m s).least)

  module _ {object : ℕ} {r : Read} (hid : object ≡ double_at m 0) (hr : r ≡ values_read m (shape_of kind)) where
    pub must_say : (bytes : List ℕ) → Stands interface bytes m → Said m object opcode (shape_of kind) (values_in r) (take (r.start + r.length - r.start) (drop r.start m))
    must_say bytes s = rw (text_so m r, hid, ho, hr, kind_is) (reads interface bytes m s).said

  -- an event says what is read
  pub says : (object : ℕ) (v : Values) (t : List ℕ) → (kind ≡ 0 → ⊥) → Said m object opcode (shape_of kind) v t → Stands interface (record_of object kind v t) m
  says object v t n said =
      let x = some kind (omega arith) kind-below v t said.allows in
      let y = x.1.sends t said.allows in
      record {
        object = object;
        opcode = opcode;
        event = x.0;
        text = t;
        has = sym hk ∙ sym x.1.kind;
        fits = y.0;
        laid = sym (laid_so x.1 object t ∙ ap (record_of object kind v) y.1);
        told = said.told ∙ ap (message object opcode) (sym (x.1.told t ∙ ap (sent_arguments (shape_of kind) v) y.1));
      }
