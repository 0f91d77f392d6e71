-- Callback done is sent for version 1 alone. Assumes nothing.
use Rattle.answers.proofs.Meetings.{ends}
use mathlib.Core.Path.{refl}
use native.Mathlib.Omega.{arith}
use Rattle.model.specs.Call.{Plain, Call}
use Rattle.model.specs.Session.{view}
use Rattle.session.specs.View.{store, session}
use Rattle.client_requests.proofs.Handling.{handled-answer, sync-version, done-room, sync-short, sync-done}
use Rattle.client_requests.proofs.untimed.sync.Goals as goal

pub returns-then-version-ne1 : goal.returns-then-version-ne1
returns-then-version-ne1 c =
    let a = c.args in
    λ d clock w r texts whole.
    let s = store d w r texts in
    handled-answer s a.out.now (Call.plain (Plain.sync a.callback a.version)) clock _ whole
    (sync-version (view (session s)) clock a.callback a.version (λ z. omega arith)) (refl, refl)

pub returns-then-out-fixed_length : goal.returns-then-out-fixed_length
returns-then-out-fixed_length c =
    let a = c.args in
    λ d clock w r texts whole.
    sync-short (store d w r texts) a.out.now a.callback a.version clock _ (omega arith) c.fixed_length.ensures whole (omega arith) (refl, refl)

pub send-requires : goal.send-requires
send-requires c =
    done-room c.fixed_length.ensures (omega arith)

pub returns : goal.returns
returns c =
    let a = c.args in
    λ d clock w r texts whole.
    sync-done (store d w r texts) a.out.now a.callback a.version clock _ (omega arith) c.fixed_length.ensures whole (omega arith) c.send.ensures (ends c.sent.ensures)
