-- Why the bytes in a handshake were not handed on, as numbers. Assumes nothing.
use Rattle.bozterrun.proofs.message.told_unhanded.Goals as goal

pub returns-in-Wait : goal.returns-in-Wait
returns-in-Wait c = rw (c.bare.ensures, c.in-Wait.is)

pub returns-in-NoObject : goal.returns-in-NoObject
returns-in-NoObject c = rw (c.bare-in-NoObject.ensures, c.in-NoObject.is)

pub returns-in-InvalidId : goal.returns-in-InvalidId
returns-in-InvalidId c = rw (c.bare-in-InvalidId.ensures, c.in-InvalidId.is)
