-- Laws of writing a message from its start on: bytes, and more bytes behind them. Assumes nothing.
use Prim.Native.Nat.{ℕ, ◌+◌, ◌≤◌}
use mathlib.Core.List.{List, [], ◌++◌}
use mathlib.Core.Path.{◌≡◌, refl, sym, ap, ◌∙◌}
use native.Mathlib.Nat.{add-zero}
use lib.ListN.{length}
use Rattle.wire.proofs.Splices.{wrote_join, splice-none}
use Rattle.message_writer.specs.Puts.{Sends}
use Rattle.message_writer.specs.declared.Sent.{Sent}
use Rattle.event_messages.specs.Message.{le}
use Rattle.message_writer.proofs.Bytes.{length-le, puts}

pub sent_then : {a b c : Sent} {xs ys : List ℕ} → Sends a b xs → Sends b c ys → a.at + (length xs + length ys) ≤ length a.out.now → Sends a c (xs ++ ys)
sent_then p q h = record { puts = puts (wrote_join p.puts q.puts h) refl; long = q.long ∙ p.long; same = q.same ∙ p.same }

pub sent_is : {a b : Sent} {xs ys : List ℕ} → Sends a b xs → xs ≡ ys → Sends a b ys
sent_is p e = rw e at p

pub sent_none : (a : Sent) → Sends a a []
sent_none a = record { puts = record { buffer = sym (splice-none a.out.now a.at); long = refl; next = sym (add-zero a.at) }; long = refl; same = refl }

-- the place behind a number
pub behind_number : {a b : Sent} (k x : ℕ) → Sends a b (le k x) → b.at ≡ a.at + k
behind_number {a} k x p = p.puts.next ∙ ap (λ (n : ℕ). a.at + n) (length-le k x)
