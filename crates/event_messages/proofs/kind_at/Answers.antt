-- The table that the code has is the definition, and past its ends there is none. Assumes nothing.
use native.Mathlib.Omega.{arith}
use Rattle.event_messages.proofs.Tables.{past_interfaces, past_opcodes, kind_in_lem}
use Rattle.event_messages.proofs.kind_at.Goals.{then-interface-ge-INTERFACES-via-then-interface-ge-INTERFACES, then-interface-ge-INTERFACES-via-else-interface-ge-INTERFACES+then-opcode-ge-OPCODES}
use Rattle.event_messages.proofs.kind_at.Goals as goal

pub returns-then-interface-ge-INTERFACES : goal.returns-then-interface-ge-INTERFACES
returns-then-interface-ge-INTERFACES c =
    elim c.then-interface-ge-INTERFACES.branch [ then-interface-ge-INTERFACES-via-then-interface-ge-INTERFACES w ↦ past_interfaces _ _ w.if-interface-ge-INTERFACES.true | then-interface-ge-INTERFACES-via-else-interface-ge-INTERFACES+then-opcode-ge-OPCODES w ↦ past_opcodes _ _ w.if-opcode-ge-OPCODES.true ]

pub returns : goal.returns
returns c = kind_in_lem _ _ (omega arith) (omega arith)
