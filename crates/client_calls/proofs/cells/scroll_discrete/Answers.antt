-- The cell is the request's, as it came: the amounts keep their signs. Assumes nothing.
use mir.Syntax.{w32}
use mir.Val.{SFits}
use mir.Facts.{to_z-of_z}
use Rattle.requests.specs.Row.{entry}
use Rattle.requests.specs.declared.request.EisRequest.{EisRequest}
use Rattle.model.specs.Call.{Input, sight, load}
use Rattle.model.specs.Edit.{item}
use Rattle.session.specs.View.{request_in, item_in, request_at, item_at}
use Rattle.handlers.proofs.Timed.{row-waits}
use borrow.Author.Rules.{rules}
use Rattle.client_calls.proofs.cells.scroll_discrete.Goals as goal

pub returns : goal.returns
unfolding sight load item item_at request_at request_in item_in entry
returns c =
    let a = c.args in
    let fx : SFits w32 a.x = search rules in
    let fy : SFits w32 a.y = search rules in
    row-waits (Input.ScrollDiscrete _ _) (EisRequest.ScrollDiscrete 0 0 _ _) c.scroll_discrete.ensures (λ t. rw (to_z-of_z fx, to_z-of_z fy))
