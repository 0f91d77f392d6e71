-- Outside of a read and in one. Assumes nothing.
use mathlib.Core.Path.{refl}
use Rattle.script_read.proofs.take.Goals as goal

pub returns : goal.returns
returns c =
    record {
      outside = λ h. absurd (c.if-reading-eq0.false h);
      within = λ h. (c.go_on.ensures, refl);
      fits = c.go_on.ensures.fits;
    }
