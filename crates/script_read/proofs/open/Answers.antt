-- A line as its own function does it, and the read that it may begin. Assumes nothing.
use mathlib.Core.Path.{◌∙◌}
use Rattle.script_read.proofs.Gathering.{begun_same, begins_as}
use Rattle.script_read.proofs.open.Goals as goal

pub shape_of-control-in-Begun : goal.shape_of-control-in-Begun
shape_of-control-in-Begun c = c.control-in-Begun-1.given ∙ c.control-1.given

pub shape_of-words-in-Begun : goal.shape_of-words-in-Begun
shape_of-words-in-Begun c = c.words-in-Begun-1.given ∙ c.words-1.given

pub shape_of-reals-in-Begun : goal.shape_of-reals-in-Begun
shape_of-reals-in-Begun c = c.reals-in-Begun-1.given ∙ c.reals-1.given

pub shape_of-texts-in-Begun : goal.shape_of-texts-in-Begun
shape_of-texts-in-Begun c = c.texts-in-Begun-1.given ∙ c.texts-1.given

pub shape_of-out-in-Begun : goal.shape_of-out-in-Begun
shape_of-out-in-Begun c = c.out-in-Begun-1.given ∙ c.out-1.given

pub returns-in-Begun : goal.returns-in-Begun
returns-in-Begun c =
    record {
      took = c.take-took.result;
      between = _;
      bytes = _;
      takes = c.take-took.ensures;
      begun = λ n e. begins_as (begun_same c.in-Begun.is e) c.begin.ensures;
      other = λ h. absurd (h _ c.in-Begun.is);
      fits = c.begin.ensures.fits;
    }
