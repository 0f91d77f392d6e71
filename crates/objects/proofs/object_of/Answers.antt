-- The answer is the option. Assumes nothing.
use Rattle.std.proofs.Common.{sym, ap, ◌∙◌}
use Rattle.eiproto.specs.Told.{told}
use Rattle.model.specs.Live.{object_of}
use Rattle.objects.specs.Answer.{object_told}
use Rattle.objects.proofs.object_of.Goals as goal

pub returns-in_err-version : goal.returns-in_err-version
unfolding object_of
returns-in_err-version c =
    ap object_told c.from_residual.ensures ∙ ap (object_of c.args.interface) (ap told (sym (c.in_err-version.was {u = tt})) ∙ c.version.ensures)

pub returns : goal.returns
unfolding object_of
returns c = ap (object_of c.args.interface) (ap told (sym (c.in_ok-version.was {u = tt})) ∙ c.version.ensures)
