-- An event's opcode on an interface. Assumes nothing.
use Rattle.std.specs.Prelude.{ℕ, ◌<◌, Option, Some, None, ◌≡◌}
use Rattle.event_messages.specs.Table.{kind_of}

-- the opcode that stands for the kind on the interface, or no opcode does
abbrev pub HasOpcode : (interface kind : ℕ) → Option ℕ → Type 0
HasOpcode interface kind (Some opcode) = (0 < kind) × (kind_of interface opcode ≡ kind)
HasOpcode interface kind None = (opcode : ℕ) → 0 < kind → kind_of interface opcode ≡ kind → ⊥
