-- Laws of event records: how long one is, and what it is in whole bytes. Assumes nothing.
use Prim.Native.Nat.{ℕ, zero, suc, ◌+◌, ◌*◌, ◌%◌, ◌≤◌, ◌<◌}
use mathlib.Core.Bool.{Bool, true, false, cond}
use mathlib.Core.List.{List, [], ◌∷◌, ◌++◌, append-nil}
use mathlib.Core.Path.{◌≡◌, refl, sym, ap, ◌∙◌}
use native.Mathlib.Omega.{arith}
use lib.Dec.{T, ltb, leb, lit<, lit≤}
use lib.ListN.{length, length-append}
use Rattle.wire.specs.Bits.{Field, ◌bits◌, widths, be, pack}
use Rattle.wire.specs.Record.{Layout, layout, text_of, header, fixed_length, record_length, event_record}
use Rattle.wire.specs.Fields.{numbers, size, start, Laid}
use Rattle.wire.specs.declared.event.Event.{Event}
use Rattle.wire.specs.declared.event.Event.TheVariants.{Disconnected}
use Rattle.wire.specs.declared.event.Fields.{Fields}
use Rattle.wire.specs.Put.{PutWhole, Wrote}
use Rattle.wire.proofs.Splices.{wrote_join, put_none, put_all}
use Rattle.wire.proofs.Bytes.{length-be, pack-bytes, pack_join}

pub length_record : (object : ℕ) (e : Event) (text : List ℕ) → length (event_record object e text) ≡ record_length e text
unfolding event_record record_length fixed_length header pack widths
length_record object e text = simp (length-append, length-be) (omega arith)

-- a record is never empty
pub fixed-least : (e : Event) → 10 ≤ fixed_length e
unfolding fixed_length
fixed-least e = omega arith

-- a number of n bytes as a field, and no field where n is 0
unfoldable pub wide : ℕ → ℕ → List Field
wide zero x = []
wide (suc n) x = (8 * suc n) bits x ∷ []

widths-wide : (n x m : ℕ) (fs : List Field) → widths fs ≡ 8 * m → widths (wide n x ++ fs) ≡ 8 * (n + m)
unfolding wide widths
widths-wide zero x m fs w = omega arith
widths-wide (suc n) x m fs w = omega arith

pack-wide : (n x m : ℕ) (fs : List Field) → widths fs ≡ 8 * m → pack (wide n x ++ fs) ≡ be n x ++ pack fs
unfolding wide be
pack-wide zero x m fs w = refl
pack-wide (suc n) x m fs w = pack-bytes (suc n) x m fs w

widths-none : widths [] ≡ 8 * 0
unfolding widths
widths-none = refl

pack-none : pack [] ≡ []
unfolding pack
pack-none = refl

explained-byte : (b : Bool) → pack (1 bits (cond b 1 0) ∷ 7 bits 0 ∷ []) ≡ be 1 (cond b 128 0)
unfolding pack
explained-byte true = refl
explained-byte false = refl

-- the layout that the numbers say
unfoldable pub layout_of : Fields → Layout
unfolding wide
layout_of f = record { kind = f.kind; fields = wide f.first.bytes f.first.value ++ (wide f.second.bytes f.second.value ++ (wide f.third.bytes f.third.value ++ [])); text = f.text }

laid_so : (d : Event) (f : Fields) → layout d ≡ layout_of f → T (ltb f.kind 32) → T (leb (size f) 16) → Laid d f
unfolding layout_of
laid_so d f l k n =
    let third = wide f.third.bytes f.third.value ++ [] in
    let rest = wide f.second.bytes f.second.value ++ third in
    let w3 : widths third ≡ 8 * (f.third.bytes + 0) = widths-wide f.third.bytes f.third.value 0 [] widths-none in
    let w2 : widths rest ≡ 8 * (f.second.bytes + (f.third.bytes + 0)) = widths-wide f.second.bytes f.second.value (f.third.bytes + 0) third w3 in
    let w1 = widths-wide f.first.bytes f.first.value (f.second.bytes + (f.third.bytes + 0)) rest w2 in
    let b1 = pack-wide f.first.bytes f.first.value (f.second.bytes + (f.third.bytes + 0)) rest w2 in
    let b2 = pack-wide f.second.bytes f.second.value (f.third.bytes + 0) third w3 in
    let b3 = pack-wide f.third.bytes f.third.value 0 [] widths-none in
    record {
      kind = sym (ap (λ (y : Layout). y.kind) l);
      small = lit< k;
      text = sym (ap (λ (y : Layout). y.text) l);
      packed = rw (l, b1, b2, b3, pack-none, append-nil);
      wide = rw l (w1 ∙ omega arith);
      most = lit≤ n;
    }

-- an event in numbers of whole bytes: the code's, once both are known
pub laid : {e d : Event} {r f : Fields} → e ≡ d → r ≡ f → layout d ≡ layout_of f → T (ltb f.kind 32) → T (leb (size f) 16) → Laid e r
laid {d = d} {f = f} p q l k n = rw (p, q) (laid_so d f l k n)

-- kind 14: the explanation's bit and seven zero bits are a byte
pub laid-disconnected : (serial reason : ℕ) (explained : Bool) → Laid (Disconnected serial reason explained) (numbers 14 4 serial 4 reason 1 (cond explained 128 0) explained)
unfolding layout widths
laid-disconnected serial reason explained =
    let last = 1 bits (cond explained 1 0) ∷ 7 bits 0 ∷ [] in
    record {
      kind = refl;
      small = lit< tt;
      text = refl;
      packed = sym (pack-bytes 4 serial 5 (32 bits reason ∷ last) refl ∙ rw (pack-bytes 4 reason 1 last refl, explained-byte explained));
      wide = refl;
      most = lit≤ tt;
    }

module _ {e : Event} {f : Fields} (l : Laid e f) where
  pub fixed_is : fixed_length e ≡ 10 + size f
  unfolding fixed_length
  fixed_is = rw l.wide (omega arith)

  pub text_is : {b : Bool} → f.text ≡ b → (text : List ℕ) → text_of e text ≡ cond b text []
  unfolding text_of
  text_is h text = rw (← l.text, h)

  -- the header's 5 and 11 bits are two bytes
  start_is : (object n : ℕ) → pack (header (layout e).kind n object ++ (layout e).fields) ≡ start object f n
  unfolding header widths
  start_is object n =
      let w : widths (layout e).fields ≡ 8 * size f = l.wide in
      let v : widths (64 bits object ∷ (layout e).fields) ≡ 8 * (8 + size f) = omega arith in
      pack_join 5 11 (layout e).kind n (64 bits object ∷ (layout e).fields)
      ∙ pack-bytes 2 ((layout e).kind * 2048 + n % 2048) (8 + size f) (64 bits object ∷ (layout e).fields) v
      ∙ rw (pack-bytes 8 object (size f) (layout e).fields w, l.kind, l.packed)

  pub record_is : (object : ℕ) (text : List ℕ) {t : List ℕ} → text_of e text ≡ t → event_record object e text ≡ start object f (10 + size f + length t) ++ t
  unfolding event_record record_length
  record_is object text h = rw (start_is object (fixed_length e + length (text_of e text)), fixed_is, h)

length_whole : (object n : ℕ) (f : Fields) (text : List ℕ) → length (start object f n ++ text) ≡ 10 + size f + length text
length_whole object n f text = simp (length-append, length-be) (omega arith)

-- a record and its text where there is no room for them, and where there is
pub whole-none : (out : List ℕ) (at object : ℕ) (f : Fields) (text : List ℕ) → length out < at + (10 + size f + length text) → PutWhole out out at (start object f (10 + size f + length text) ++ text) 0
whole-none out at object f text h =
    let l = length_whole object (10 + size f + length text) f text in
    put_none out at (start object f (10 + size f + length text) ++ text) (omega arith)

pub whole_all : {out mid later : List ℕ} {at b r n : ℕ} (object : ℕ) (f : Fields) {text : List ℕ} → n ≡ 10 + size f → Wrote out mid at (10 + size f) (start object f (n + length text)) b → Wrote mid later b (length text) text r → at + (n + length text) ≤ length out → PutWhole out later at (start object f (10 + size f + length text) ++ text) (n + length text)
whole_all object f {text} e p q h = rw e (put_all (wrote_join (rw e at p) q (omega arith)) (omega arith))
