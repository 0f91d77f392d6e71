-- The bit is listed, and the id is that of the bit. Assumes nothing.
use Rattle.std.proofs.Common.{◌≡◌, ℕ, true, false, eqb, sym, ap, ◌∙◌, ap₂}
use Rattle.eiproto.specs.Bits.{bit}
use Rattle.control.specs.Control.{listed_at, interface_id}
use Rattle.control.proofs.Interfaces.{core-lists, core-lists_as}
use Rattle.control.proofs.lists_interface.Goals as goal

pub returns-then-has_capability : goal.returns-then-has_capability
returns-then-has_capability c =
    let a = c.args in
    let has : bit a.bit (listed_at a.control.now a.k) ≡ true = sym (core-lists a.control.now a.k a.bit) ∙ sym c.has_capability.ensures ∙ c.if-has_capability.true in
    rw (core-lists_as a.control.now a.k a.bit a.id, has)
    (ap (λ (x : ℕ). eqb x a.id)
    (c.interface_id.ensures ∙ ap₂ (λ (d m : ℕ). interface_id d m a.bit) c.device_id.ensures c.device_capabilities.ensures))

pub returns-else-has_capability : goal.returns-else-has_capability
returns-else-has_capability c =
    let a = c.args in
    let lacks : bit a.bit (listed_at a.control.now a.k) ≡ false = sym (core-lists a.control.now a.k a.bit) ∙ sym c.has_capability.ensures ∙ c.if-has_capability.false in
    rw (core-lists_as a.control.now a.k a.bit a.id, lacks) c.if-has_capability.false
