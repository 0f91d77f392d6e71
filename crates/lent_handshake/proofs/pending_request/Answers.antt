-- 21 by the lengths; else what the call by value promises, kept where a request was handed on. Assumes nothing.
use mathlib.Core.Path.{sym}
use Rattle.std.specs.Prelude.{Ok}
use Rattle.lent_handshake.proofs.Replies.{lent-whole}
use Rattle.lent_handshake.proofs.Messages.{unlent_received, nothing-received, handed-sound, handed-received, ok_handed, not-ok_unhanded}
use Rattle.lent_handshake.proofs.pending_request.Goals.{then-is_ok, else-is_ok}
use Rattle.lent_handshake.proofs.pending_request.Goals as goal

pub returns-then-not-lent_with : goal.returns-then-not-lent_with
returns-then-not-lent_with c =
    unlent_received (sym c.if-not-lent_with.ensures)
    (λ i. record { told = Ok tt; reply = record { outcome = c.bad_state.ensures.0 i; count = c.bad_state.ensures.1 i }; taken = 0 })

pub load-requires : goal.load-requires
load-requires c =
    let l = lent-whole c.args.words.now c.args.name.now c.args.control.now (sym c.if-not-lent_with.ensures) in
    l.0

pub settle-requires : goal.settle-requires
settle-requires c =
    let l = lent-whole c.args.words.now c.args.name.now c.args.control.now (sym c.if-not-lent_with.ensures) in
    (l.0, (l.1, handed-sound _ _ c.pending_request-received.ensures (ok_handed _ c.if-is_ok.ensures.value)))

pub returns : goal.returns
returns c =
    let l = lent-whole c.args.words.now c.args.name.now c.args.control.now (sym c.if-not-lent_with.ensures) in
    rw c.into.ensures
    (elim c.if-is_ok.branch [
      | then-is_ok w ↦ rw (w.words-is, w.name-is, w.control-is)
          (handed-received _ _ _ _ l.0 c.load.ensures.result_value c.load.ensures.length_value l.1 _ c.pending_request-received.ensures (ok_handed _ w.if-is_ok.ensures.value) w.settle.ensures)
      | else-is_ok w ↦ rw (w.words-is, w.name-is, w.control-is)
          (nothing-received _ _ _ _ l.0 c.load.ensures.result_value c.load.ensures.length_value l.1 _ c.pending_request-received.ensures (not-ok_unhanded _ w.if-is_ok.ensures.value))
    ])
