-- 21 by the lengths or by the handshake itself; a refusal stores nothing, and anything else is stored. Assumes nothing.
use mathlib.Core.Path.{sym}
use Rattle.lent_handshake.proofs.Replies.{unlent_handled, refused-handled, stored-handled, accepted-sound, ok_accepted, not-ok_refused}
use Rattle.lent_handshake.proofs.handle_request.Goals.{then-is_ok, else-is_ok}
use Rattle.lent_handshake.proofs.handle_request.Goals as goal

pub returns-then-not-lent : goal.returns-then-not-lent
returns-then-not-lent c =
    unlent_handled (sym c.if-not-lent.ensures) c.bad_state.ensures

pub store-requires : goal.store-requires
store-requires c =
    let l = sym c.if-not-lent.ensures in
    (l, (c.handle_request-answer.ensures.done (accepted-sound _ c.handle_request-answer.ensures (ok_accepted _ c.if-is_ok.ensures.value))).meets.sound)

pub returns : goal.returns
returns c =
    let l = sym c.if-not-lent.ensures in
    rw c.into.ensures
    (elim c.if-is_ok.branch [
      | then-is_ok w ↦ rw (w.words-is, w.name-is)
          (stored-handled _ _ _ l c.load.ensures.result_value c.load.ensures.length_value _ c.handle_request-answer.ensures (ok_accepted _ w.if-is_ok.ensures.value) w.store.ensures)
      | else-is_ok w ↦ rw (w.words-is, w.name-is)
          (refused-handled _ _ _ l c.load.ensures.result_value c.load.ensures.length_value _ c.handle_request-answer.ensures (not-ok_refused _ w.if-is_ok.ensures.value))
    ])
