-- A name event is ten bytes and the name. Assumes nothing.
use Rattle.std.proofs.Common.{sym, ap, ◌∙◌, arith}
use Rattle.session.specs.Slices.{given}
use Rattle.events.proofs.Named.{none-length, given-length}
use Rattle.events.proofs.name_length.Goals as goal

pub returns-in-Some : goal.returns-in-Some
returns-in-Some c =
    (λ object. c.named_length.ensures.0 ∙ sym (given-length object c.in-Some.name.now (ap given c.in-Some.is)), c.named_length.ensures.1)

pub returns-in-None : goal.returns-in-None
returns-in-None c =
    (λ object. sym (none-length object (ap given c.in-None.is)), omega arith)
