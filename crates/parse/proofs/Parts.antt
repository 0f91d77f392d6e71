-- The part of the message that a text is told by lies within the message. Assumes nothing.
use Prim.Native.Nat.{ℕ, ◌+◌, ◌-◌, ◌≤◌}
use mathlib.Core.Path.{◌≡◌, refl}
use mathlib.Core.Bool.{Bool, true, false, cond, ◌&&◌}
use mathlib.Core.List.{List}
use native.Mathlib.Omega.{arith}
use borrow.Author.Tests.{leb-true, eqb-false}
use lib.Dec.{eqb, leb, ltb}
use lib.ListN.{length}
use Rattle.utf8.specs.Rfc3629.{is_utf8}
use Rattle.wire.specs.declared.ParseError.{ParseError}
use Rattle.parse.specs.declared.Argument.{Argument}
use Rattle.parse.specs.declared.Arguments.{Arguments}
use Rattle.parse.specs.declared.Progress.{Progress}
use Rattle.std.specs.Prelude.{Ok, Err, Some}
use Rattle.std.specs.Prelude as rust
use Rattle.parse.specs.Parse.{Walk, le32, with_number, with_real, with_text, padded, text_at, needing, word_read, double_word_read, real_read, text_read, variant_read, read_by, argument_read, begun, ended, parsed_as, parsed}
use Rattle.parse.specs.Table.{Found, signature_of}

either : {A : Type 0} (P : A → Type 0) (t : Bool) {x y : A} → (t ≡ true → P x) → (t ≡ false → P y) → P (cond t x y)
either P true f g = f refl
either P false f g = g refl

module _ (m : List ℕ) where
  -- the text of what was read
  abbrev Inside : Progress → Type 0
  Inside p = p.read.start + p.read.length ≤ length m

  abbrev Within : Walk → Type 0
  Within w = (p : Progress) → w ≡ Ok p → Inside p

  malformed : (e : ParseError) → Within (Err e)
  malformed e p q = absurd (let z : ◌≡◌ {A = ℕ} 0 1 = cc in omega arith)

  reading : (p : Progress) → Inside p → Within (Ok p)
  reading p h q e = let k : p ≡ q = cc in rw k at h

  needed : (at count : ℕ) {w : Walk} → (at + count ≤ length m → Within w) → Within (needing m at count w)
  unfolding needing
  needed at count h = either Within (leb (at + count) (length m)) (λ t. h (leb-true _ _ t)) (λ _. malformed ParseError.EndOfMessage)

  -- a number leaves the text as it is
  numbered : (p : Progress) (next n : ℕ) → Inside p → Within (Ok (with_number p next n))
  unfolding with_number
  numbered p next n h = reading _ (either Inside (eqb p.numbers 0) (λ _. h) (λ _. either Inside (eqb p.numbers 1) (λ _. h) (λ _. h)))

  varied : (least most : ℕ) (p : Progress) → Inside p → Within (variant_read least most m p)
  unfolding variant_read
  varied least most p h =
      needed p.at 4
      (λ _. either Within (leb least (le32 m p.at) && leb (le32 m p.at) most) (λ _. numbered p _ _ h) (λ _. malformed _))

  worded : (p : Progress) → Within (text_read m p)
  unfolding text_read with_text
  worded p =
      let count = le32 m p.at in
      needed p.at 4
      (λ _. either Within (eqb count 0) (λ _. malformed _)
      (λ some. needed (p.at + 4) (padded count)
      (λ room. either Within (is_utf8 (text_at m (p.at + 4) count)) (λ _. reading _ (omega (arith, eqb-false count 0 some))) (λ _. malformed _))))

  read-within : (kind : Argument) (p : Progress) → Inside p → Within (read_by kind m p)
  unfolding read_by word_read double_word_read real_read with_real
  read-within Argument.None p h = reading p h
  read-within Argument.Uint32 p h = needed p.at 4 (λ _. numbered p _ _ h)
  read-within Argument.Uint64 p h = needed p.at 8 (λ _. numbered p _ _ h)
  read-within Argument.Float p h = needed p.at 4 (λ _. reading _ (either Inside (eqb p.reals 0) (λ _. h) (λ _. h)))
  read-within Argument.String p h = worded p
  read-within Argument.PressState p h = varied 0 1 p h
  read-within Argument.ContextType p h = varied 1 2 p h

  -- one argument
  step : (kind : Argument) (w : Walk) → Within w → Within (argument_read kind m w)
  unfolding argument_read
  step kind (Err e) h = malformed e
  step kind (Ok p) h = read-within kind p (h p refl)

  ended-within : (w : Walk) (a : Arguments) → Within w → ended m w ≡ Ok a → a.start + a.length ≤ length m
  unfolding ended
  ended-within (Err e) a h q = absurd (let z : ◌≡◌ {A = ℕ} 0 1 = cc in omega arith)
  ended-within (Ok p) a h q = go (ltb p.at (length m)) q
    where
      go : (t : Bool) → cond t (Err (ParseError.MessageLength (length m + (length m - p.at)) (length m))) (Ok p.read) ≡ Ok a
          → a.start + a.length ≤ length m
      go true q = absurd (let z : ◌≡◌ {A = ℕ} 0 1 = cc in omega arith)
      go false q = let k : p.read ≡ a = cc in rw k at (h p refl)

  walked_within : (interface : ℕ) (f : Found) (a : Arguments) → parsed_as interface m f ≡ Ok a → a.start + a.length ≤ length m
  unfolding parsed_as begun
  walked_within interface rust.None a q = absurd (let z : ◌≡◌ {A = ℕ} 0 1 = cc in omega arith)
  walked_within interface (Some s) a q = ended-within _ a (step s.third _ (step s.second _ (step s.first _ (reading _ (omega arith))))) q

  pub text-within : (interface : ℕ) (a : Arguments) → parsed interface m ≡ Ok a → a.start + a.length ≤ length m
  unfolding parsed
  text-within interface a q = walked_within interface (signature_of interface (le32 m 12)) a q
