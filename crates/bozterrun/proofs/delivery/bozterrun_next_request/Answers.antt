-- What the call gives is what the numbers are. Assumes nothing.
use mathlib.Core.Path.{refl, ap, ◌∙◌}
use Rattle.converter.specs.Next.{next_of}
use Rattle.std.specs.Prelude.{Some, None, Ok, Err}
use Rattle.converter.proofs.Given.{delivered_as}
use Rattle.bozterrun.proofs.delivery.bozterrun_next_request.Goals as goal

pub returns-in-Ok-Some : goal.returns-in-Ok-Some
returns-in-Ok-Some c =
    record {
      next = Ok (Some c.in-Ok-Some.given);
      delivered = delivered_as (ap next_of (c.in-Ok-Some.is ∙ ap Ok c.in-Ok-Some.field-0-is)) c.next_cell.ensures;
      status_is = refl;
      numbers_are = refl;
      coordinates_are = refl;
    }

pub returns-in-Ok-None : goal.returns-in-Ok-None
returns-in-Ok-None c =
    record { next = Ok None; delivered = delivered_as (ap next_of (c.in-Ok-None.is ∙ ap Ok c.in-Ok-None.field-0-is)) c.next_cell.ensures; status_is = refl; numbers_are = refl; coordinates_are = refl }

pub returns-in-Err : goal.returns-in-Err
returns-in-Err c =
    record {
      next = Err c.in-Err.error;
      delivered = delivered_as (ap next_of c.in-Err.is) c.next_cell.ensures;
      status_is = c.number.ensures;
      numbers_are = refl;
      coordinates_are = refl;
    }
