-- What was given as numbers is the request that they mean. Assumes nothing.
use mathlib.Core.Path.{sym, ap, ◌∙◌}
use Rattle.converter.specs.Next.{next_of}
use Rattle.std.specs.Prelude.{Option, Some, Ok, Err}
use Rattle.std.proofs.lemmas.Result.{err_from_is_err_and}
use Rattle.requests.specs.declared.cell.Cell.{Cell}
use Rattle.requests.specs.declared.request.EisRequest.{EisRequest}
use Rattle.converter.proofs.Given.{delivered_as}
use Rattle.converter.proofs.request.next_request.Goals as goal

pub returns-in_err-oldest : goal.returns-in_err-oldest
returns-in_err-oldest c =
    let p = err_from_is_err_and c.from_residual.result c.from_residual.ensures.1 in
    delivered_as (sym (p.1 ∙ ap Err p.2)) c.in_err-oldest.ensures

pub returns-in_default : goal.returns-in_default
returns-in_default c =
    delivered_as (ap (λ (x : Option Cell). next_of (Ok x)) c.in_default.is) c.in_ok-oldest.ensures

pub returns : goal.returns
returns c =
    delivered_as (ap (λ (x : Option Cell). next_of (Ok x)) c.in-Some.is ∙ sym (ap (λ (r : EisRequest). Ok (Some r)) c.decode.ensures))
    c.in_ok-oldest.ensures
