-- Each case has its number. Assumes nothing.
use Rattle.bozterrun.proofs.message.told_error.Goals as goal

pub returns-in-EndOfMessage : goal.returns-in-EndOfMessage
returns-in-EndOfMessage c = rw (c.malformed.ensures, c.in-EndOfMessage.is)

pub returns-in-Utf8 : goal.returns-in-Utf8
returns-in-Utf8 c = rw (c.malformed-in-Utf8.ensures, c.in-Utf8.is)

pub returns-in-InvalidOpcode : goal.returns-in-InvalidOpcode
returns-in-InvalidOpcode c = rw (c.malformed-in-InvalidOpcode.ensures, c.from.ensures, c.in-InvalidOpcode.is)

pub returns-in-InvalidVariant : goal.returns-in-InvalidVariant
returns-in-InvalidVariant c = rw (c.malformed-in-InvalidVariant.ensures, c.in-InvalidVariant.is)

pub returns-in-HeaderLength : goal.returns-in-HeaderLength
returns-in-HeaderLength c = rw (c.malformed-in-HeaderLength.ensures, c.in-HeaderLength.is)

pub returns-in-MessageLength : goal.returns-in-MessageLength
returns-in-MessageLength c = rw (c.malformed-in-MessageLength.ensures, c.in-MessageLength.is)

pub returns-in-InvalidNull : goal.returns-in-InvalidNull
returns-in-InvalidNull c = rw (c.malformed-in-InvalidNull.ensures, c.in-InvalidNull.is)
