-- What the functions' proofs share: a name that is found, and values read one behind another. Assumes nothing.
use Prim.Native.Nat.{ℕ, ◌+◌, ◌-◌}
use mathlib.Core.Bool.{true, false}
use mathlib.Core.List.{List}
use mathlib.Core.Path.{◌≡◌, sym, ap, ◌∙◌}
use native.Mathlib.Omega.{arith}
use borrow.Author.Tests.{eq-eqb, ne_eqb}
use lib.ListN.{take, drop}
use Rattle.std.specs.Prelude.{Option}
use Rattle.eiproto.specs.Interface.{lookup}
use Rattle.eiproto.specs.Told.{told}
use mathlib.Core.Logic.{◌⊎◌, inl, inr}
use Rattle.event_messages.specs.declared.EventArgument.{EventArgument}
use Rattle.event_messages.specs.declared.Shape.{Shape}
use Rattle.message_reader.specs.declared.ReadSoFar.{ReadSoFar}
use Rattle.message_reader.specs.Read.{word_at, part_of, or_none, name_at, progress_of, with_text, with_explanation, begun, argument_read, read_of, values_read}

-- what `find` answered of a part, which it was told by its ends
pub named : (m : List ℕ) (start n : ℕ) {f g : Option ℕ} → told f ≡ lookup (take (start + n - start) (drop start m)) → f ≡ g → or_none (told g) ≡ name_at m (part_of start n)
unfolding name_at
named m start n h e =
    let k : start + n - start ≡ n = omega arith in
    ap (λ (f : Option ℕ). or_none (told f)) (sym e) ∙ ap or_none (rw k at h)

-- a string or none, by what stands for its length
module _ (m : List ℕ) (p : ReadSoFar) where
  pub no_string : word_at m p.at ≡ 0 → with_explanation m p ≡ progress_of (p.at + 4) 0 0 0
  unfolding with_explanation
  no_string e = rw (eq-eqb (word_at m p.at) 0 e)

  pub some-string : (word_at m p.at ≡ 0 → ⊥) → with_explanation m p ≡ with_text m p 128
  unfolding with_explanation
  some-string n = rw (ne_eqb (word_at m p.at) 0 n)

module _ (m : List ℕ) (s : Shape) {a b c : ReadSoFar} where
  pub read_swapped : s.swapped ≡ true → b ≡ argument_read s.second m begun → a ≡ argument_read s.first m b → c ≡ argument_read s.third m a → read_of a b c c ≡ values_read m s
  unfolding values_read
  read_swapped t hb ha hc = rw (t, hc, ha, hb)

  pub read_straight : s.swapped ≡ false → a ≡ argument_read s.first m begun → b ≡ argument_read s.second m a → c ≡ argument_read s.third m b → read_of a b c c ≡ values_read m s
  unfolding values_read
  read_straight t ha hb hc = rw (t, hc, hb, ha)

-- the values that are four bytes in a message
pub word_read : {a : EventArgument} (m : List ℕ) (p : ReadSoFar) → (a ≡ EventArgument.Uint32) ⊎ ((a ≡ EventArgument.Reason) ⊎ (a ≡ EventArgument.DeviceType))
    → argument_read a m p ≡ progress_of (p.at + 4) (word_at m p.at) p.start p.length
word_read m p (inl e) = rw e
word_read m p (inr (inl e)) = rw e
word_read m p (inr (inr e)) = rw e
