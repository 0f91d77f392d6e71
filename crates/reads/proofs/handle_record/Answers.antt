-- The session is lent on: `requires` says that it is not damaged. Assumes nothing.
use Rattle.session.specs.View.{store}
use Rattle.session.proofs.Views.{whole_parts, lent-part}
use Rattle.reads.proofs.handle_record.Goals as goal

pub invariant_of-session : goal.invariant_of-session
invariant_of-session c =
    let a = c.args in
    let s = store a.control.now a.words.now a.reals.now a.texts.now in
    record { lent = lent-part s (whole_parts s c.requires.0) }

pub record_on-requires : goal.record_on-requires
record_on-requires c =
    let a = c.args in
    (whole_parts (store a.control.now a.words.now a.reals.now a.texts.now) c.requires.0, c.requires.1)
