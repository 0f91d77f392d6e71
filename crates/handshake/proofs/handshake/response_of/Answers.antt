-- `handshake::handshake::response_of` meets its contract: field by field. Assumes nothing.
use mathlib.Core.Path.{refl}
use Rattle.handshake.specs.Handshake.{settled}
use Rattle.handshake.specs.View.{view_of, response_of}
use Rattle.handshake.proofs.Cases.{or_receiver_is}
use Rattle.handshake.proofs.handshake.response_of.Goals as goal

pub returns : goal.returns
unfolding settled view_of response_of
returns c =
    (rw (c.unwrap_or.ensures, or_receiver_is, c.requires), refl)
