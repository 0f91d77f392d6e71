-- Lines that are never cut: how long that of an event's message or record can be. Assumes nothing.
use Prim.Native.Nat.{ℕ, ◌+◌, ◌*◌, ◌≤◌}
use mathlib.Core.Bool.{false}
use mathlib.Core.List.{List, [], ◌∷◌, ◌++◌}
use native.Mathlib.Omega.{arith}
use lib.ListN.{length, take, length-append, length-take}
use Rattle.event_messages.specs.Written.{Written}
use Rattle.std.specs.Prelude.{Ok, Err}
use Rattle.script_asked.specs.declared.Event.{Event}
use Rattle.script_pattern.specs.Digits.{hexadecimal}
use Rattle.script_pattern.specs.Pattern.{bytes_of}
use Rattle.script_pattern.proofs.Lengths.{hexadecimal-length, bytes-length, bare-within}
use Rattle.script_events.specs.Shown.{event_shown, event_count, event_line}

-- two digits for each byte behind `message t:` or `record t:`; no bytes of a refusal
shown-length : (event : Event) (r : Written) (out : List ℕ) → length (bytes_of (event_shown false event r) (take (event_count r) out)) ≤ 160 + 2 * length out
unfolding bytes_of
shown-length (Event.Write i) (Ok n) out =
    omega (arith, hexadecimal-length (take n out), length-append (hexadecimal (take n out)) [], length-take n out)
shown-length (Event.Read i) (Ok n) out =
    omega (arith, hexadecimal-length (take n out), length-append (hexadecimal (take n out)) [], length-take n out)
shown-length event (Err e) out = omega (arith, bytes-length 22 160 bare-within (event_shown false event (Err e)) [] (omega arith))

pub event-fits : (event : Event) (r : Written) (out : List ℕ) → length out ≤ 4096 → length (event_line event r out false) ≤ 65536
unfolding event_line
event-fits event r out h =
    let shown = bytes_of (event_shown false event r) (take (event_count r) out) in
    omega (arith, shown-length event r out, length-append shown (0x0a ∷ []), length-append (shown ++ (0x0a ∷ [])) [])
