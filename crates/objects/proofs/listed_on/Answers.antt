-- A device whose id is not near lists none with the id; of any other the bits are asked. Assumes nothing.
use Rattle.std.proofs.Common.{ℕ, ◌+◌, ◌-◌, ◌%◌, ◌^◌, sym, ap, ◌∙◌, arith}
use Rattle.model.specs.Live.{listed_as}
use Rattle.control.specs.Control.{capabilities_at, listed_at, interfaces_on, core_at}
use Rattle.control.proofs.Interfaces.{core-interfaces, listed_small}
use Rattle.objects.proofs.Listing.{far_none}
use Rattle.objects.proofs.listed_on.Goals as goal

pub returns-then-near-eq0 : goal.returns-then-near-eq0
returns-then-near-eq0 c =
    let a = c.args in
    let w = a.control.now in
    let near : ℕ = (a.id + (2 ^ 64 - c.device_id-device.result)) % 2 ^ 64 in
    sym (ap (listed_as a.id) (core-interfaces w a.k)
    ∙ far_none (core_at w a.k).id (capabilities_at w a.k) a.id near (omega arith) (omega (arith, c.device_id-device.ensures)) (listed_at w a.k) (listed_small w a.k)
    c.then-near-eq0.either)

pub returns : goal.returns
returns c =
    let a = c.args in
    let w = a.control.now in
    c.listed_among.ensures
    ∙ (λ t. listed_as a.id (interfaces_on (c.device_id-device.ensures t) (c.device_capabilities-capabilities.ensures t) (c.device_listed-listed.ensures t)))
    ∙ ap (listed_as a.id) (sym (core-interfaces w a.k))
