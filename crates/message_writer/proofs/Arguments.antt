-- The values of a message, one behind another. Assumes nothing.
use Prim.Native.Nat.{ℕ, ◌+◌, ◌≤◌}
use mathlib.Core.Bool.{Bool, true, false, cond}
use mathlib.Core.List.{List, ◌++◌}
use mathlib.Core.Path.{◌≡◌}
use native.Mathlib.Omega.{arith}
use borrow.Author.Tests.{leb-true}
use lib.ListN.{length, length-append}
use Rattle.event_messages.specs.Stands.{sendable_text}
use Rattle.event_messages.specs.Shape.{sent, sent_arguments}
use Rattle.event_messages.specs.declared.Shape.{Shape}
use Rattle.event_messages.specs.declared.Values.{Values}
use Rattle.event_messages.proofs.Tests.{both_hold}

pub text-short : (t : List ℕ) → sendable_text t ≡ true → length t ≤ 254
unfolding sendable_text
text-short t h = leb-true (length t) 254 (both_hold h).0

-- in either order they have as many bytes
joint : (swapped : Bool) (a b c : List ℕ) → length (cond swapped (b ++ (a ++ c)) (a ++ (b ++ c))) ≡ length a + (length b + length c)
joint true a b c = simp length-append (omega arith)
joint false a b c = simp length-append (omega arith)

pub length-arguments : (s : Shape) (v : Values) (t : List ℕ)
    → length (sent_arguments s v t) ≡ length (sent s.first v.first t) + (length (sent s.second v.second t) + length (sent s.third v.third t))
unfolding sent_arguments
length-arguments s v t = joint s.swapped (sent s.first v.first t) (sent s.second v.second t) (sent s.third v.third t)
