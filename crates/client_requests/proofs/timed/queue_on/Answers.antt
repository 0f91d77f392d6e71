-- The test of the pending count decides. Assumes nothing.
use native.Mathlib.Omega.{arith}
use Rattle.client_requests.proofs.Decisions.{queue_full, queue-room}
use Rattle.client_requests.proofs.timed.queue_on.Goals as goal

pub returns-then-pending_count-ge-PENDING_LIMIT : goal.returns-then-pending_count-ge-PENDING_LIMIT
returns-then-pending_count-ge-PENDING_LIMIT c = let a = c.args in queue_full a.control.now a.k a.change a.request (omega (arith, c.pending_count.ensures))

pub returns : goal.returns
returns c = let a = c.args in queue-room a.control.now a.k a.change a.request (omega (arith, c.pending_count.ensures))
