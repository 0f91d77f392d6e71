-- The request waits as it came: the amounts keep their signs. Assumes nothing.
use mathlib.Core.Path.{refl, ap₂, subst}
use lib.IntN.{ℤ}
use mir.Syntax.{w32}
use mir.Val.{SFits}
use mir.Facts.{to_z-of_z}
use Rattle.model.specs.Call.{Input, sight}
use Rattle.model.specs.Decide.{handler}
use Rattle.client_requests.specs.Decision.{Waits}
use borrow.Author.Rules.{rules}
use Rattle.bozterrun.proofs.client.bozterrun_scroll_scroll_discrete.Goals as goal

pub returns : goal.returns
unfolding handler sight
returns c =
    let a = c.args in
    let fx : SFits w32 a.x = search rules in
    let fy : SFits w32 a.y = search rules in
    c.queue.ensures (Input.ScrollDiscrete a.x a.y) (record { by = refl; valid = refl })
    (subst (λ (i : Input). Waits i c.scroll_discrete-request.result) (ap₂ (λ (x y : ℤ). Input.ScrollDiscrete x y) (to_z-of_z fx) (to_z-of_z fy)) c.scroll_discrete-request.ensures)
