-- `handshake::handshake::finish` meets its contract: the tests lead to the three cases of the definition. Assumes nothing.
use mathlib.Core.Path.{sym, ◌∙◌}
use lib.ListN.{length}
use Rattle.handshake.specs.View.{view_of}
use Rattle.handshake.specs.declared.handshake.HandshakeError.{HandshakeError}
use Rattle.handshake.proofs.Answers.{refused-done}
use Rattle.handshake.proofs.Cases.{finish_spent, next_is, next_spent}
use Rattle.handshake.proofs.handshake.finish.Goals as goal

pub finish_missing-requires : goal.finish_missing-requires
finish_missing-requires c =
    (c.requires, sym c.if-not-complete.ensures)

pub conclude-requires : goal.conclude-requires
conclude-requires c =
    let whole = sym c.if-not-complete.ensures in
    let next = next_is c.args.h.next _ (sym c.new_objects.ensures ∙ c.in-Some.is) in
    (c.requires, (whole, next))

pub returns-in-None : goal.returns-in-None
unfolding view_of
returns-in-None c =
    let a = c.args in
    let whole = sym c.if-not-complete.ensures in
    let spent = next_spent a.h.next (sym c.new_objects.ensures ∙ c.in-None.is) in
    refused-done a.h HandshakeError.IdsSpent c.requires
    (finish_spent (view_of a.h) (length a.out.now) whole spent)
    c.refused.ensures
    a.out.now
