-- Lines that are never cut: how long that of a client's bytes can be. Assumes nothing.
use Prim.Native.Nat.{ℕ, ◌≤◌}
use mathlib.Core.Bool.{false}
use mathlib.Core.List.{List}
use native.Mathlib.Omega.{arith}
use lib.ListN.{length, take, length-take}
use Rattle.handshake.specs.declared.handshake.HandshakeAnswer.{HandshakeAnswer}
use Rattle.messages.specs.Received.{Received}
use Rattle.script_show.proofs.Fits.{line_length_lem}
use Rattle.script_message.specs.Shown.{handshake_taken, message_shown, message_count, message_line, handshake_message_line}

pub message-fits : (r : Received) (out : List ℕ) → length out ≤ 4096 → length (message_line r out false) ≤ 65536
unfolding message_line
message-fits r out h = omega (arith, line_length_lem (message_shown false r) (take (message_count r) out), length-take (message_count r) out)

pub handshake_message-fits : (a : HandshakeAnswer) (taken : ℕ) (out : List ℕ) → length out ≤ 4096 → length (handshake_message_line a taken out false) ≤ 65536
unfolding handshake_message_line
handshake_message-fits a n out h =
    omega (arith, line_length_lem (handshake_taken false n a.outcome) (take a.count out), length-take a.count out)
