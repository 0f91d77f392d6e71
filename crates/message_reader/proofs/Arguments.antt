-- A value read where it stands in a message. Assumes nothing.
use Prim.Native.Nat.{ℕ, ◌+◌, ◌≤◌}
use mathlib.Core.Bool.{Bool, true, false, cond}
use mathlib.Core.List.{List, [], ◌∷◌, ◌++◌}
use mathlib.Core.Path.{◌≡◌, refl, sym, ap, ◌∙◌}
use native.Mathlib.Nat.{add-zero}
use native.Mathlib.Omega.{arith}
use borrow.Author.Tests.{eqb-true, leb-true}
use lib.Dec.{eqb}
use lib.ListN.{length, drop}
use Rattle.eiproto.specs.Interface.{interface_name}
use Rattle.eiproto.proofs.Interface.{lookup-name}
use Rattle.wire.specs.Bits.{be}
use Rattle.wire.proofs.Bytes.{be-mod}
use Rattle.event_messages.specs.Message.{le, string}
use Rattle.event_messages.specs.Shape.{width, has_text, sent, explains, allowed}
use Rattle.event_messages.specs.Stands.{between}
use Rattle.event_messages.specs.declared.EventArgument.{EventArgument}
use Rattle.event_messages.specs.declared.EventArgument.TheVariants.{None, Uint32, Uint64, Interface, Reason, DeviceType, Text, Explanation}
use Rattle.event_messages.proofs.Tests.{both_hold}
use Rattle.message_writer.proofs.Bytes.{length-string}
use Rattle.message_writer.proofs.Names.{name-short}
use Rattle.message_writer.proofs.Reduced.{le-mod}
use Rattle.message_reader.specs.declared.ReadSoFar.{ReadSoFar}
use Rattle.message_reader.specs.Read.{word_at, text_at, string_size, bytes_of, name_at, progress_of, with_name, with_text, with_explanation, argument_read}
use Rattle.message_reader.proofs.Steps.{no_string, some-string}
use Rattle.message_reader.proofs.Numbers.{word-le, double_le, string-count, string-text, string-part}

in_range : (least most n : ℕ) → between least most n ≡ true → (least ≤ n) × (n ≤ most)
in_range least most n t = let b = both_hold t in (leb-true _ _ b.0, leb-true _ _ b.1)

pub none_of : (t : List ℕ) → eqb (length t) 0 ≡ true → [] ≡ t
none_of [] e = refl
none_of (x ∷ t) e = absurd (omega (arith, eqb-true (length (x ∷ t)) 0 e))

-- what is read of a value's bytes: the next place, a value that is sent and recorded alike, and a text's bytes
pub record Got (m : List ℕ) (a : EventArgument) (x : ℕ) (text : List ℕ) (p q : ReadSoFar) : Type 0 where
  pub next : q.at ≡ p.at + length (sent a x text)
  pub same : sent a q.value text ≡ sent a x text
  pub field : be (width a) q.value ≡ be (width a) x
  pub fits : allowed a q.value (length text) ≡ true
  pub part : bytes_of m q.start q.length ≡ cond (has_text a) text (bytes_of m p.start p.length)

module _ (m : List ℕ) (text rest : List ℕ) (small : length text ≤ 254) (p : ReadSoFar) where
  -- a value that is the very one
  exactly : (a : EventArgument) (x : ℕ) (q : ReadSoFar) → q.value ≡ x → allowed a x (length text) ≡ true → q.at ≡ p.at + length (sent a x text)
      → bytes_of m q.start q.length ≡ cond (has_text a) text (bytes_of m p.start p.length) → Got m a x text p q
  exactly a x q e f n t = record {
    next = n;
    same = ap (λ (y : ℕ). sent a y text) e;
    field = ap (be (width a)) e;
    fits = ap (λ (y : ℕ). allowed a y (length text)) e ∙ f;
    part = t;
  }

  -- a string's place, and the next
  string-next : (s : List ℕ) → length s ≤ 254 → drop p.at m ≡ string s ++ rest → p.at + string_size (text_at m p.at).length ≡ p.at + length (string s)
  string-next s l e = rw (string-part m p.at s rest l e, length-string s)

  text_part_lem : drop p.at m ≡ string text ++ rest → bytes_of m (text_at m p.at).start (text_at m p.at).length ≡ text
  text_part_lem e = rw (string-part m p.at text rest small e) (string-text m p.at text rest small e)

  -- a name is found under its number
  found : (x : ℕ) → between 1 12 x ≡ true → length (interface_name x) ≤ 254 → drop p.at m ≡ string (interface_name x) ++ rest → name_at m (text_at m p.at) ≡ x
  unfolding name_at
  found x h l e =
      let r = in_range 1 12 x h in
      rw (string-part m p.at (interface_name x) rest l e, string-text m p.at (interface_name x) rest l e, lookup-name x r.0 (omega (arith, r.1)))

  -- four bytes of a number that fits in them
  four : (x : ℕ) → x ≤ 5 → drop p.at m ≡ le 4 x ++ rest → word_at m p.at ≡ x
  four x h e = word-le m p.at x rest e ∙ omega arith

  explained : (x : ℕ) → (t : Bool) → eqb x 128 ≡ t → explains x (length text) ≡ true → drop p.at m ≡ sent Explanation x text ++ rest → Got m Explanation x text p (with_explanation m p)
  unfolding sent with_text
  explained x true t h e =
      let d : drop p.at m ≡ string text ++ rest = rw t at e in
      let n = string-count m p.at text rest small d in
      rw (some-string m p (λ z. omega arith))
      (exactly Explanation x (with_text m p 128) (sym (eqb-true x 128 t)) h (rw t (string-next text small d)) (text_part_lem d))
  explained x false t h e =
      let d : drop p.at m ≡ le 4 0 ++ rest = rw t at e in
      let n : word_at m p.at ≡ 0 = word-le m p.at 0 rest d in
      let b = both_hold (rw t at h) in
      rw (no_string m p n)
      (exactly Explanation x (progress_of (p.at + 4) 0 0 0) (sym (eqb-true x 0 b.0)) h (rw t) (none_of text b.1))

  pub got : (a : EventArgument) (x : ℕ) → allowed a x (length text) ≡ true → drop p.at m ≡ sent a x text ++ rest → Got m a x text p (argument_read a m p)
  unfolding sent be with_name with_text
  got None x h e = record { next = sym (add-zero p.at); same = refl; field = refl; fits = refl; part = refl }
  got Uint32 x h e =
      let w = word-le m p.at x rest e in
      record { next = refl; same = ap (le 4) w ∙ le-mod 4 x; field = ap (be 4) w ∙ be-mod 4 x; fits = refl; part = refl }
  got Uint64 x h e =
      let w = double_le m p.at x rest e in
      record { next = refl; same = ap (le 8) w ∙ le-mod 8 x; field = ap (be 8) w ∙ be-mod 8 x; fits = refl; part = refl }
  got Interface x h e =
      let l : length (interface_name x) ≤ 254 = omega (arith, name-short x) in
      exactly Interface x (with_name m p) (found x h l e) h (string-next (interface_name x) l e) refl
  got Reason x h e = exactly Reason x (argument_read Reason m p) (four x (in_range 0 5 x h).1 e) h refl refl
  got DeviceType x h e = exactly DeviceType x (argument_read DeviceType m p) (four x (omega (arith, (in_range 1 2 x h).1)) e) h refl refl
  got Text x h e = record { next = string-next text small e; same = refl; field = refl; fits = refl; part = text_part_lem e }
  got Explanation x h e = explained x (eqb x 128) refl h e
