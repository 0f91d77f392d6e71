-- By the outcome: a refusal stores nothing, and a Finish that succeeds begins the session. Assumes nothing.
use mathlib.Core.Path.{ap, ◌∙◌}
use Rattle.std.specs.Prelude.{Ok}
use Rattle.handshake.specs.View.{is_refusal}
use Rattle.lent_handshake.proofs.Messages.{refused-settled, stored-settled, begun-settled}
use Rattle.lent_handshake.proofs.settle.Goals as goal

pub store-requires : goal.store-requires
store-requires c =
    (c.requires.0, c.requires.1.1 (ap is_refusal c.in-Ok.is))

pub returns-in_default : goal.returns-in_default
returns-in_default c =
    refused-settled c.args.answer _ c.in_default.is

pub returns-in_default-settled : goal.returns-in_default-settled
returns-in_default-settled c =
    stored-settled c.args.answer c.store.ensures (c.in-Ok.is ∙ ap Ok c.in_default-settled.is)

pub returns-in-Some : goal.returns-in-Some
returns-in-Some c =
    begun-settled c.args.answer c.store.ensures (c.in-Ok.is ∙ ap Ok c.in-Some.is) c.requires.1.0 c.new.ensures
