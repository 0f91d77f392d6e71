-- The versions by place and by number, and the capabilities that have one. Assumes nothing.
use Rattle.std.proofs.Common.{◌≡◌, ℕ, suc, ◌+◌, ◌-◌, ◌*◌, ◌%◌, ◌^◌, ◌<◌, Bool, cond, List, get_or, sym, refl, ap, ◌∙◌, add-one, arith, pow_mono, eq-eqb, ne_eqb}
use mathlib.Core.Option.{none, some}
use lib.ListN.{get_or-eq_default}
use Rattle.std.specs.Prelude.{Option, Some, None}
use Rattle.std.specs.Option.{unwrap_or, is_some as has_value}
use Rattle.std.proofs.Math.Nat.{mul-add, mul_assoc, pow-suc}
use Rattle.eiproto.specs.Told.{told}
use Rattle.eiproto.specs.Bits.{mask_from}
use Rattle.eiproto.specs.Capability.{interface_of_bit}
use Rattle.eiproto.proofs.Bits.{mask-small}
use Rattle.model.specs.Decide.{is_some, stated, version, negotiated_capabilities}
use Rattle.control.specs.Table.{tab}
use Rattle.control.specs.Control.{version_in, versions_of, connection_of}
use Rattle.control.proofs.Tables.{tab_at, tab-length}

pub stated_told : (o : Option ℕ) → unwrap_or o 1 ≡ stated (told o)
unfolding stated
stated_told None = refl
stated_told (Some v) = refl

pub some_told : (o : Option ℕ) → has_value o ≡ is_some (told o)
unfolding is_some
some_told None = refl
some_told (Some v) = refl

module _ (c : List ℕ) where
  at_word : (p : ℕ) → p < 12 → get_or (connection_of c).versions p none ≡ version_in (get_or c (8 + p) 0)
  unfolding connection_of versions_of
  at_word p h = tab_at 12 (λ i. version_in (get_or c (8 + i) 0)) p none h

  pub at_none : (p : ℕ) → p < 12 → get_or c (8 + p) 0 ≡ 0 → get_or (connection_of c).versions p none ≡ none
  unfolding version_in
  at_none p h e = at_word p h ∙ rw (eq-eqb (get_or c (8 + p) 0) 0 e)

  pub at_some : (p : ℕ) → p < 12 → (get_or c (8 + p) 0 ≡ 0 → ⊥) → get_or (connection_of c).versions p none ≡ some ((get_or c (8 + p) 0 - 1) % 2 ^ 32)
  unfolding version_in
  at_some p h n = at_word p h ∙ rw (ne_eqb (get_or c (8 + p) 0) 0 n)

  pub version_at_lem : (i p : ℕ) → i - 1 ≡ p → get_or (connection_of c).versions p none ≡ version (connection_of c) i
  unfolding version
  version_at_lem i p e = ap (λ (x : ℕ). get_or (connection_of c).versions x none) (sym e)

  pub version_past : (i : ℕ) → 12 < i → version (connection_of c) i ≡ none
  unfolding version connection_of versions_of
  version_past i h =
      let n = tab-length 12 (λ i. version_in (get_or c (8 + i) 0)) in
      get_or-eq_default (tab 12 (λ i. version_in (get_or c (8 + i) 0))) none {n = i - 1} (omega arith)

  -- the negotiated capabilities from a bit up, as a mask whose lowest bit is that one
  unfoldable pub negotiated_from : (bit : ℕ) → ℕ
  unfolding mask_from
  negotiated_from b = mask_from (7 - b) b (λ b. is_some (version (connection_of c) (interface_of_bit b)))

  pub negotiated_past : negotiated_from 7 ≡ 0
  unfolding negotiated_from mask_from
  negotiated_past = refl

  pub negotiated_all : negotiated_from 0 ≡ negotiated_capabilities (connection_of c)
  unfolding negotiated_from negotiated_capabilities
  negotiated_all = refl

  pub negotiated-next : (b : ℕ) (t : Bool) → b < 7 → t ≡ is_some (version (connection_of c) (interface_of_bit b)) → negotiated_from b ≡ cond t 1 0 + 2 * negotiated_from (b + 1)
  unfolding negotiated_from mask_from
  negotiated-next b t h e =
      let z : 7 - b ≡ suc (7 - (b + 1)) = omega arith in rw (z, e)

  pub negotiated-small : (b : ℕ) → negotiated_from b < 128
  unfolding negotiated_from
  negotiated-small b =
      omega (arith, mask-small (7 - b) b (λ b. is_some (version (connection_of c) (interface_of_bit b))), pow_mono {i = 7 - b} {j = 7} (omega arith))

  -- s is what stands below bit b
  pub negotiated_step : (b s : ℕ) (t : Bool) → b < 7 → t ≡ is_some (version (connection_of c) (interface_of_bit b)) → s + 2 ^ b * negotiated_from b ≡ negotiated_from 0
      → s + 2 ^ b * cond t 1 0 + 2 ^ (b + 1) * negotiated_from (b + 1) ≡ negotiated_from 0
  negotiated_step b s t l e h =
      let n : ℕ = negotiated_from (b + 1) in
      let whole : 2 ^ b * negotiated_from b ≡ 2 ^ b * cond t 1 0 + 2 ^ b * (2 * n) =
      ap (λ (y : ℕ). 2 ^ b * y) (negotiated-next b t l e) ∙ mul-add (2 ^ b) (cond t 1 0) (2 * n)
      in
      let power : 2 ^ (b + 1) ≡ 2 ^ b * 2 = rw add-one (pow-suc 2 b) in
      let twice : 2 ^ (b + 1) * n ≡ 2 ^ b * (2 * n) = ap (λ (y : ℕ). y * n) power ∙ mul_assoc (2 ^ b) 2 n in
      omega arith
