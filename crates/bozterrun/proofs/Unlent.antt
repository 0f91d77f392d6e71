-- A message that is lent an empty `out` leaves it empty. Assumes nothing.
use Prim.Native.Nat.{ℕ}
use mathlib.Core.Path.{◌≡◌}
use mathlib.Core.List.{List, []}
use lib.ListN.{length}
use Rattle.handshake.specs.Handshake as paper
use Rattle.lent_handshake.specs.Lent.{Handled}
use Rattle.lent_handshake.specs.declared.HandshakeReply.{HandshakeReply}
use Rattle.client_calls.proofs.Unlent.{emptied}

pub no_out : {w n v m later : List ℕ} {message : paper.Message} {r : HandshakeReply} → length later ≡ 0 → Handled w n v m [] later message r
    → Handled w n v m [] [] message r
no_out {w} {n} {v} {m} {later} {message} {r} l h = emptied (λ (xs : List ℕ). Handled w n v m [] xs message r) l h
