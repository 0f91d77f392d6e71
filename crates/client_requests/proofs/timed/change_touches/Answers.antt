-- A touch goes down or up, or nothing is changed. Assumes nothing.
use Rattle.client_requests.proofs.Enactings.{changes_nothing, changes_touch}
use Rattle.client_requests.proofs.timed.change_touches.Goals as goal

pub touch_down-requires : goal.touch_down-requires
touch_down-requires c =
    (c.requires.0, (c.requires.1.0, c.requires.1.1 _ c.in-Down.is))

pub returns-in-Nothing : goal.returns-in-Nothing
returns-in-Nothing c = changes_nothing _ c.in-Nothing.is c.requires.0

pub returns-in-Down : goal.returns-in-Down
returns-in-Down c =
    changes_touch _ c.in-Down.is c.touch_down.ensures

pub returns-in-Up : goal.returns-in-Up
returns-in-Up c =
    changes_touch _ c.in-Up.is c.touch_up.ensures
