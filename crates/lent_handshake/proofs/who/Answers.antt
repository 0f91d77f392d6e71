-- 21 by the lengths or by the name's, or what the words say. Assumes nothing.
use mathlib.Core.Path.{sym, refl}
use native.Mathlib.Omega.{arith}
use Rattle.lent_handshake.proofs.Replies.{unlent_named, long-named, known-named}
use Rattle.lent_handshake.proofs.who.Goals as goal

pub returns-then-not-lent : goal.returns-then-not-lent
returns-then-not-lent c =
    unlent_named (sym c.if-not-lent.ensures) refl

pub returns-then-h-gt-NAME_LENGTH_LIMIT : goal.returns-then-h-gt-NAME_LENGTH_LIMIT
returns-then-h-gt-NAME_LENGTH_LIMIT c =
    let l = sym c.if-not-lent.ensures in
    long-named _ _ _ l c.load-h.ensures.result_value c.load-h.ensures.length_value (omega arith) refl

pub returns : goal.returns
returns c =
    let l = sym c.if-not-lent.ensures in
    known-named _ _ _ l c.load-h.ensures.result_value c.load-h.ensures.length_value _ (omega arith) c.context_word.ensures.0
