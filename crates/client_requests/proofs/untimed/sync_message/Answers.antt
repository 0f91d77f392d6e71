-- 25, or Sync; the object is the client's where that is accepted. Assumes nothing.
use Rattle.std.proofs.lemmas.Result.{err_from_is_err_and}
use Rattle.answers.proofs.Meetings.{error_refuses, ending_goes_on}
use mathlib.Core.Path.{refl}
use native.Mathlib.Omega.{arith}
use Rattle.session.specs.View.{store}
use Rattle.client_requests.proofs.Peers.{peer_id, low-id, high_id, not_peer, peer_refused, peer_made, whole-made}
use Rattle.client_requests.proofs.untimed.sync_message.Goals as goal

pub returns-then-callback-last_peer_id : goal.returns-then-callback-last_peer_id
returns-then-callback-last_peer_id c clock w q texts whole =
    let a = c.args in
    let s = store a.control.now w q texts in
    not_peer s a.out.now a.callback a.version clock _ whole (low-id s a.callback (omega (arith, c.last_peer_id.ensures))) (refl, refl)

pub returns-then-callback-ge-FIRST_SERVER_ID : goal.returns-then-callback-ge-FIRST_SERVER_ID
returns-then-callback-ge-FIRST_SERVER_ID c clock w q texts whole =
    let a = c.args in
    let s = store a.control.now w q texts in
    not_peer s a.out.now a.callback a.version clock _ whole (high_id s a.callback (omega arith)) (refl, refl)

pub returns-in_err-answer : goal.returns-in_err-answer
returns-in_err-answer c clock w q texts whole =
    let a = c.args in
    let s = store a.control.now w q texts in
    let p = err_from_is_err_and c.from_residual.result c.from_residual.ensures.1 in
    rw (p.1, p.2)
    (peer_refused s a.out.now a.callback a.version clock _ (peer_id s a.callback (omega (arith, c.last_peer_id.ensures)) (omega arith))
    (c.in_err-answer.ensures a.control.now clock w q texts whole) (error_refuses _))

pub returns : goal.returns
returns c clock w q texts whole =
    let a = c.args in
    let s = store a.control.now w q texts in
    let made = c.new_peer_object.ensures w q texts _ in
    peer_made s a.out.now a.callback a.version clock _ (peer_id s a.callback (omega (arith, c.last_peer_id.ensures)) (omega arith))
    (c.in_ok-answer.ensures a.control.now clock w q texts whole) (ending_goes_on _) (whole-made whole made) made
