-- One word of the connection. Assumes nothing.
use Rattle.session.proofs.Edits.{peer_made}
use Rattle.session.proofs.new_peer_object.Goals as goal

pub returns : goal.returns
returns c = peer_made c.set_last_peer_id.ensures
