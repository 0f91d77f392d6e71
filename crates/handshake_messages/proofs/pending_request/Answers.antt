-- 21 by the first test; then by what was read: nothing, or what the handshake's own call promises. Assumes nothing.
use mathlib.Core.Path.{refl, sym, ◌∙◌}
use native.Mathlib.Omega.{arith}
use lib.ListN.{length-take}
use Rattle.handshake.proofs.Answers.{sound_is}
use Rattle.handshake_messages.proofs.Receipts.{request-within, received-damaged, received, taken-ok, taken-err}
use Rattle.handshake_messages.proofs.pending_request.Goals as goal

pub returns-then-h-gt-NAME_LENGTH_LIMIT : goal.returns-then-h-gt-NAME_LENGTH_LIMIT
returns-then-h-gt-NAME_LENGTH_LIMIT c =
    let a = c.args in
    received-damaged a.h a.message.now a.out.now c.if-h-gt-NAME_LENGTH_LIMIT.true refl

pub slice_bounds-hand_on-end : goal.slice_bounds-hand_on-end
slice_bounds-hand_on-end c =
    let w = request-within _ _ _ _ (sym c.in-Ok.is ∙ c.read.ensures) in
    simp length-take (omega (arith, w.room))

pub hand_on-answer-requires : goal.hand_on-answer-requires
hand_on-answer-requires c =
    (request-within _ _ _ _ (sym c.in-Ok.is ∙ c.read.ensures)).text

pub returns-in-Err : goal.returns-in-Err
returns-in-Err c =
    let a = c.args in
    received a.h a.message.now c.if-h-gt-NAME_LENGTH_LIMIT.false c.read.ensures (rw c.in-Err.is (refl, refl))

pub returns-then-is_ok : goal.returns-then-is_ok
returns-then-is_ok c =
    let a = c.args in
    received a.h a.message.now c.if-h-gt-NAME_LENGTH_LIMIT.false c.read.ensures
    (rw c.in-Ok.is (record { told = refl; done = c.hand_on-answer.ensures.done (sound_is _ c.if-h-gt-NAME_LENGTH_LIMIT.false); taken = taken-ok c.hand_on-answer.result.outcome _ c.if-is_ok.ensures.value }))

pub returns-else-is_ok : goal.returns-else-is_ok
returns-else-is_ok c =
    let a = c.args in
    received a.h a.message.now c.if-h-gt-NAME_LENGTH_LIMIT.false c.read.ensures
    (rw c.in-Ok.is (record { told = refl; done = c.hand_on-answer.ensures.done (sound_is _ c.if-h-gt-NAME_LENGTH_LIMIT.false); taken = taken-err c.hand_on-answer.result.outcome _ c.if-is_ok.ensures.value }))
