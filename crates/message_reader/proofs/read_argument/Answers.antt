-- Each value by its own function. Assumes nothing.
use mathlib.Core.Path.{refl}
use native.Mathlib.Omega.{arith}
use Rattle.message_reader.proofs.Steps.{word_read}
use Rattle.message_reader.proofs.read_argument.Goals as goal

pub returns-in-None : goal.returns-in-None
returns-in-None c = rw c.in-None.is (record { is = refl; near = omega arith; inside = omega arith })

pub returns-in-Uint64 : goal.returns-in-Uint64
returns-in-Uint64 c = rw c.in-Uint64.is (record { is = rw c.double_at.ensures; near = omega arith; inside = omega arith })

pub returns-in-Interface : goal.returns-in-Interface
returns-in-Interface c = rw c.in-Interface.is c.with_name.ensures

pub returns-in-Text : goal.returns-in-Text
returns-in-Text c = rw c.in-Text.is c.with_text.ensures

pub returns-in-Explanation : goal.returns-in-Explanation
returns-in-Explanation c = rw c.in-Explanation.is c.with_explanation.ensures

pub returns-in-Uint32 : goal.returns-in-Uint32
returns-in-Uint32 c =
    rw (word_read c.args.message.now c.args.p c.in-Uint32.is) (record { is = rw (c.from.ensures, c.word_at.ensures); near = omega arith; inside = omega arith })
