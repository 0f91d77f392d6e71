-- Lines that are never cut: how long a line of a trail can be. Assumes nothing.
use Prim.Native.Nat.{ℕ, zero, suc, ◌+◌, ◌-◌, ◌*◌, ◌≤◌}
use mathlib.Core.Bool.{Bool, false}
use mathlib.Core.List.{List, [], ◌∷◌, ◌++◌}
use native.Mathlib.Omega.{arith}
use lib.ListN.{length, take, length-append, length-take}
use Rattle.eiproto.specs.Interface.{ascii}
use Rattle.std.specs.Prelude.{Option, Some, None, Result}
use Rattle.answers.specs.Answer.{error_of, outcome_of, count_of}
use Rattle.answers.specs.declared.Answer.{Answer}
use Rattle.answers.specs.declared.Error.{Error}
use Rattle.handshake.specs.declared.handshake.HandshakeAnswer.{HandshakeAnswer}
use Rattle.requests.specs.declared.request.EisRequest.{EisRequest}
use Rattle.script_pattern.specs.Digits.{hexadecimal, escaped}
use Rattle.script_pattern.specs.Pattern.{bytes_of, first_line, first_read, shown}
use Rattle.script_pattern.specs.declared.table.Shown.{Shown}
use Rattle.script_pattern.proofs.Lengths.{hexadecimal-length, escaped-length, bytes-length, bare-within, texted-within}
use Rattle.script_show.specs.Records.{record_size, each_from, each_record, record_bytes, trail}
use Rattle.script_show.specs.Answer.{result_shown, handshake_outcome, behind_outcome, line_of, read_refusal, read_line, answer_line, handshake_line, next_shown, next_length, next_line, error_line, call_line}
use Rattle.script_show.proofs.Sizes.{size_bounds}

-- ---- records in hexadecimal: a space, and two digits for each byte

each_length : (n : ℕ) (l : List ℕ) → length (each_from (record_bytes false) n l) ≤ 3 * (length l - n)
unfolding each_from record_bytes
each_length n [] = omega arith
each_length zero (b ∷ bs) =
    let r = record_size (b ∷ bs) in
    let s = size_bounds (b ∷ bs) (omega arith) in
    let part = take r (b ∷ bs) in
    omega (
      arith,
      length-append (0x20 ∷ hexadecimal part) (each_from (record_bytes false) (r - 1) bs),
      hexadecimal-length part,
      length-take r (b ∷ bs),
      each_length (r - 1) bs,
    )
each_length (suc n) (b ∷ bs) = omega (arith, each_length n bs)

trail-length : (l : List ℕ) → length (trail l) ≤ 2 + 3 * length l
unfolding trail each_record ascii
trail-length [] = omega arith
trail-length (b ∷ bs) = omega (arith, each_length 0 (b ∷ bs))

behind-length : (l : List ℕ) → length (behind_outcome l false) ≤ 3 + 3 * length l
unfolding behind_outcome
behind-length l = omega (arith, trail-length l, length-append (trail l) (0x0a ∷ []))

pub line_length_lem : (s : Shown) (l : List ℕ) → length (line_of s l false) ≤ 163 + 3 * length l
unfolding line_of
line_length_lem s l =
    omega (
      arith,
      bytes-length 22 160 bare-within s [] (omega arith),
      behind-length l,
      length-append (bytes_of s []) (behind_outcome l false),
    )

-- ---- the lines, with the lent `out` of a script and a text of at most 255 bytes

pub answer-fits : (a : Result Answer Error) (out : List ℕ) → length out ≤ 4096 → length (answer_line a out false) ≤ 65536
unfolding answer_line
answer-fits a out h =
    omega (arith, line_length_lem (result_shown false (outcome_of a)) (take (count_of a) out), length-take (count_of a) out)

pub handshake-fits : (a : HandshakeAnswer) (out : List ℕ) → length out ≤ 4096 → length (handshake_line a out false) ≤ 65536
unfolding handshake_line
handshake-fits a out h =
    omega (arith, line_length_lem (handshake_outcome false a.outcome) (take a.count out), length-take a.count out)

refusal-length : (o : Option Error) → length (read_refusal false o) ≤ 161
refusal-length None = omega arith
refusal-length (Some e) = omega (arith, bytes-length 22 160 bare-within (result_shown false (error_of e)) [] (omega arith))

pub read_fits : (n count : ℕ) (r : Option Error) (out : List ℕ) → length out ≤ 4096 → length (read_line n count r out false) ≤ 65536
unfolding read_line
read_fits n count r out h =
    let s = shown first_read n 0 0 0 0 in
    let l = take count out in
    omega (
      arith,
      bytes-length 22 160 bare-within s [] (omega arith),
      refusal-length r,
      behind-length l,
      length-take count out,
      length-append (bytes_of s []) (read_refusal false r ++ behind_outcome l false),
      length-append (read_refusal false r) (behind_outcome l false),
    )

pub next_fits : (n : Result (Option EisRequest) Error) (buffer : List ℕ) (explained : Bool) → next_length n ≤ 255 → length (next_line n buffer explained) ≤ 65536
unfolding next_line
next_fits n buffer explained h =
    let t = take (next_length n) buffer in
    let l = length-take (next_length n) buffer in
    omega (
      arith,
      bytes-length 1042 5400 texted-within (next_shown explained n) t (omega arith),
      length-append (bytes_of (next_shown explained n) t) (0x0a ∷ []),
    )

pub error_fits : (n : ℕ) → length (error_line n) ≤ 161
unfolding error_line
error_fits n =
    let s = shown first_line n 0 0 0 0 in
    omega (arith, bytes-length 22 160 bare-within s [] (omega arith), length-append (bytes_of s []) (0x0a ∷ []))

-- a byte of the script's line is at most four
pub call_fits : (call : List ℕ) → length (call_line call) ≤ 4 * length call + 3
unfolding call_line bytes_of
call_fits call =
    omega (
      arith,
      escaped-length call,
      length-append (escaped call) [],
      length-append (0x3e ∷ 0x20 ∷ (escaped call ++ [])) (0x0a ∷ []),
    )
