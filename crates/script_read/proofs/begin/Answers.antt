-- Where there is no room, and where the texts are lent and the records are to come. Assumes nothing.
use mathlib.Core.Path.{refl, sym, ap₂, subst}
use native.Mathlib.Omega.{arith}
use Rattle.script_read.specs.declared.Reading.{Reading}
use Rattle.script_read.specs.Read.{taken, Fits}
use Rattle.script_read.proofs.Gathering.{none_yet, no_read-fits, settled-fits, texts-lent, settles_as}
use borrow.Author.Rules.{rules}
use Rattle.script_read.proofs.begin.Goals as goal

pub returns-then-record_count-left : goal.returns-then-record_count-left
returns-then-record_count-left c =
    let a = c.args in
    record {
      many = λ h. (ap₂ taken c.no_call.ensures c.none.ensures, (refl, refl));
      begins = λ h. absurd (omega (arith, h, c.if-record_count-left.true, c.record_count.ensures));
      fits = subst (λ (g : Reading). Fits g a.records.now a.points.now a.lent.now) (sym c.none.ensures) (no_read-fits a.records.now a.points.now a.lent.now);
    }

pub returns : goal.returns
returns c =
    let a = c.args in
    record {
      many = λ h. absurd (omega (arith, h, c.if-record_count-left.false, c.record_count.ensures));
      begins = λ h. (c.lend_text.ensures.0, c.lend_text.result, (c.lend_text.ensures.1.0, (texts-lent c.lend_text.ensures.1.1, settles_as refl refl (none_yet a.count c.lend_text.result a.records.now a.points.now) (texts-lent c.lend_text.ensures.1.1) c.settle.ensures)));
      fits = settled-fits (search rules) c.settle.ensures;
    }
