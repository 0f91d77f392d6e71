-- All values of a message, read back. Assumes nothing.
use Prim.Native.Nat.{ℕ, ◌≤◌}
use mathlib.Core.Bool.{Bool, true, false, cond, ◌||◌}
use mathlib.Core.List.{List, [], ◌++◌, append-nil}
use mathlib.Core.Path.{◌≡◌, refl, sym, subst, ◌∙◌}
use lib.ListN.{length, drop}
use Rattle.wire.specs.Bits.{be}
use Rattle.event_messages.specs.Shape.{width, has_text, sent, sent_arguments, allowed, allowed_all}
use Rattle.event_messages.specs.declared.EventArgument.{EventArgument}
use Rattle.event_messages.specs.declared.Shape.{Shape}
use Rattle.event_messages.specs.declared.Values.{Values}
use Rattle.event_messages.proofs.Events.{parts}
use Rattle.message_writer.proofs.Arguments.{text-short}
use Rattle.message_reader.specs.declared.ReadSoFar.{ReadSoFar}
use Rattle.message_reader.specs.declared.Read.{Read}
use Rattle.message_reader.specs.Read.{bytes_of, begun, argument_read, read_of, values_read}
use Rattle.message_reader.specs.Back.{values_in, text_in}
use Rattle.message_reader.proofs.Steps.{read_swapped, read_straight}
use Rattle.message_reader.proofs.Numbers.{behind}
use Rattle.message_reader.proofs.Arguments.{none_of, Got, got}

-- a text that a value has is the last that is read
last-text : (a b c : Bool) (text : List ℕ) → (a ≡ false → b ≡ false → c ≡ false → [] ≡ text) → cond c text (cond b text (cond a text [])) ≡ text
last-text a b true text e = refl
last-text a true false text e = refl
last-text true false false text e = refl
last-text false false false text e = e refl refl refl

neither : (a c : Bool) {z : Bool} → (a || c) || z ≡ true → a ≡ false → c ≡ false → z ≡ true
neither a c h p q = rw (p, q) at h

-- values that are sent and recorded as others are, beside the same text
pub record Alike (m : List ℕ) (s : Shape) (v : Values) (text : List ℕ) (r : Read) : Type 0 where
  pub texts : text_in m r ≡ text
  pub same : sent_arguments s (values_in r) text ≡ sent_arguments s v text
  pub fits : allowed_all s (values_in r) text ≡ true
  pub first : be (width s.first) r.first ≡ be (width s.first) v.first
  pub second : be (width s.second) r.second ≡ be (width s.second) v.second
  pub third : be (width s.third) r.third ≡ be (width s.third) v.third

-- three values read one behind another
record Walked (m text : List ℕ) (a b c : EventArgument) (x y z : ℕ) : Type 0 where
  one : Got m a x text begun (argument_read a m begun)
  two : Got m b y text (argument_read a m begun) (argument_read b m (argument_read a m begun))
  three : Got m c z text (argument_read b m (argument_read a m begun)) (argument_read c m (argument_read b m (argument_read a m begun)))
  texts : bytes_of m (argument_read c m (argument_read b m (argument_read a m begun))).start (argument_read c m (argument_read b m (argument_read a m begun))).length ≡ cond (has_text c) text (cond (has_text b) text (cond (has_text a) text []))

module _ (m : List ℕ) (s : Shape) (v : Values) (text : List ℕ) (allow : allowed_all s v text ≡ true) where
  short : length text ≤ 254
  short = text-short text (parts s v text allow).text

  alike : (p q r : ReadSoFar) {a b c : ReadSoFar} → Got m s.first v.first text p a → Got m s.second v.second text q b → Got m s.third v.third text r c
      → bytes_of m c.start c.length ≡ text
      → Alike m s v text (read_of a b c c)
  unfolding sent_arguments allowed_all text_in values_in
  alike p q r one two three t =
      let h = parts s v text allow in
      record {
        texts = t;
        same = rw (one.same, two.same, three.same);
        fits = rw (one.fits, two.fits, three.fits, h.has) h.text;
        first = one.field;
        second = two.field;
        third = three.field;
      }

  walked : (a b c : EventArgument) (x y z : ℕ) → allowed a x (length text) ≡ true → allowed b y (length text) ≡ true → allowed c z (length text) ≡ true
      → drop 16 m ≡ sent a x text ++ (sent b y text ++ sent c z text) → Walked m text a b c x y z
  walked a b c x y z ha hb hc e =
      let one = got m text (sent b y text ++ sent c z text) short begun a x ha e in
      let p = argument_read a m begun in
      let f = behind m 16 (sent a x text) (sent b y text ++ sent c z text) e one.next in
      let two = got m text (sent c z text) short p b y hb f in
      let q = argument_read b m p in
      let g = behind m p.at (sent b y text) (sent c z text) f two.next in
      let three = got m text [] short q c z hc (g ∙ sym (append-nil (sent c z text))) in
      record { one = one; two = two; three = three; texts = three.part ∙ rw (two.part, one.part) }

  by : (b : Bool) → s.swapped ≡ b → drop 16 m ≡ sent_arguments s v text → Alike m s v text (values_read m s)
  unfolding sent_arguments
  by false t e =
      let h = parts s v text allow in
      let w = walked s.first s.second s.third v.first v.second v.third h.first h.second h.third (rw t at e) in
      subst (Alike m s v text) (read_straight m s t refl refl refl)
      (alike _ _ _ w.one w.two w.three (w.texts ∙ last-text (has_text s.first) (has_text s.second) (has_text s.third) text (λ a b c. none_of text (neither (has_text s.first) (has_text s.third) h.has a c))))
  by true t e =
      let h = parts s v text allow in
      let w = walked s.second s.first s.third v.second v.first v.third h.second h.first h.third (rw t at e) in
      subst (Alike m s v text) (read_swapped m s t refl refl refl)
      (alike _ _ _ w.two w.one w.three (w.texts ∙ last-text (has_text s.second) (has_text s.first) (has_text s.third) text (λ b a c. none_of text (neither (has_text s.first) (has_text s.third) h.has a c))))

  -- what is read of the values' bytes
  pub read_back : drop 16 m ≡ sent_arguments s v text → Alike m s v text (values_read m s)
  read_back e = by s.swapped refl e
