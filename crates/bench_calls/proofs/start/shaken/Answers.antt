-- The start, a message for each interface, Finish, and the session that it leaves. Assumes nothing.
use Rattle.eiproto.specs.Interface.{ascii}
use Rattle.bench_calls.specs.Begun.{nothing, more, known, Shaken}
use Rattle.bench_calls.proofs.start.shaken.Goals as goal

pub returns : goal.returns
unfolding known ascii
returns c =
    let three = more (more (more nothing c.negotiated-h.ensures) c.negotiated-h-2.ensures) c.negotiated-h-3.ensures in
    let six = more (more (more three c.negotiated-h-4.ensures) c.negotiated-h-5.ensures) c.negotiated-h-6.ensures in
    Shaken.shaken c.new.ensures six c.handle_request-finished.ensures c.open.ensures
