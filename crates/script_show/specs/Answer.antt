-- The lines of a trail. Assumes nothing.
use Rattle.std.specs.Prelude.{ℕ, ◌+◌, Bool, true, cond, List, [], ◌∷◌, ◌++◌, take}
use Rattle.std.specs.Prelude as rust
use Rattle.std.specs.Prelude.{Option, Some, None, Ok, Err}
use Rattle.answers.specs.Answer.{error_of, outcome_of, count_of}
use Rattle.answers.specs.declared.Answer.{Answer}
use Rattle.answers.specs.declared.Error.{Error}
use Rattle.handshake.specs.View.{number, HandshakeOutcome}
use Rattle.handshake.specs.declared.handshake.HandshakeAnswer.{HandshakeAnswer}
use Rattle.model.specs.Plan.{Result}
use Rattle.requests.specs.Request.{text_length}
use Rattle.requests.specs.declared.request.EisRequest.{EisRequest}
use Rattle.script_pattern.specs.Pattern.{first_outcome, first_refusal, first_line, first_read, shown, bytes_of}
use Rattle.script_pattern.specs.Words.{truth_number}
use Rattle.script_show.specs.Request.{delivered}
use Rattle.script_show.specs.Records.{each_record, record_bytes, trail}
use Rattle.script_pattern.specs.declared.table.Shown.{Shown}

-- how a call ends: a refusal by its number, explained with its name behind it; 2 has the interface and the version
abbrev pub result_shown : (explained : Bool) → Result → Shown
result_shown x Result.accepted = shown first_outcome 0 0 0 0 0
result_shown x (Result.seat id) = shown (first_outcome + 1) id 0 0 0 0
result_shown x (Result.device id) = shown (first_outcome + 2) id 0 0 0 0
result_shown x (Result.value n) = shown (first_outcome + 3) n 0 0 0 0
result_shown x (Result.truth b) = shown (first_outcome + 4) (truth_number b) 0 0 0 0
result_shown x Result.none = shown (first_outcome + 5) 0 0 0 0 0
result_shown x (Result.refused n) = shown (first_refusal + cond x n 0) n 0 0 0 0
result_shown x (Result.refused_version i v) = shown (cond x (first_refusal + 2) (first_outcome + 6)) 2 i v 0 0
-- that of next_request, which no call is answered with
result_shown x Result.given = shown first_outcome 0 0 0 0 0

abbrev pub handshake_outcome : (explained : Bool) → HandshakeOutcome → Shown
handshake_outcome x (Ok s) = result_shown x Result.accepted
handshake_outcome x (Err e) = result_shown x (Result.refused (number e))

-- behind the outcome of a call, the records that it wrote and the end of the line; explained, then a line for each record
unfoldable pub behind_outcome : (records : List ℕ) → (explained : Bool) → List ℕ
unfolding trail each_record record_bytes
behind_outcome records x = trail records ++ (0x0a ∷ cond x (each_record (record_bytes true) records) [])

unfoldable pub line_of : Shown → (records : List ℕ) → (explained : Bool) → List ℕ
unfolding bytes_of behind_outcome
line_of s records x = bytes_of s [] ++ behind_outcome records x

-- WHAT A CALL ON A SESSION IS ANSWERED; the records begin `out`
unfoldable pub answer_line : rust.Result Answer Error → (out : List ℕ) → (explained : Bool) → List ℕ
unfolding line_of
answer_line a out x = line_of (result_shown x (outcome_of a)) (take (count_of a) out) x

-- WHAT A CALL OF THE HANDSHAKE IS ANSWERED
unfoldable pub handshake_line : HandshakeAnswer → (out : List ℕ) → (explained : Bool) → List ℕ
unfolding line_of
handshake_line a out x = line_of (handshake_outcome x a.outcome) (take a.count out) x

-- the refusal that ended a read, "as it is printed elsewhere"; nothing where there was none
abbrev pub read_refusal : (explained : Bool) → Option Error → List ℕ
read_refusal x None = []
read_refusal x (Some e) = 0x20 ∷ bytes_of (result_shown x (error_of e)) []

-- WHAT A READ IS ANSWERED: "the number accepted and, if there was one, the first refusal as it is printed elsewhere. Behind the bar the records of those
-- accepted"
unfoldable pub read_line : (accepted count : ℕ) → (refusal : Option Error) → (out : List ℕ) → (explained : Bool) → List ℕ
unfolding bytes_of behind_outcome
read_line n count refusal out x = bytes_of (shown first_read n 0 0 0 0) [] ++ (read_refusal x refusal ++ behind_outcome (take count out) x)

-- what next_request gives, and how many bytes its text has
abbrev pub next_shown : (explained : Bool) → rust.Result (Option EisRequest) Error → Shown
next_shown x (Ok (Some r)) = delivered x r
next_shown x (Ok None) = result_shown x Result.none
next_shown x (Err e) = result_shown x (error_of e)

abbrev pub next_length : rust.Result (Option EisRequest) Error → ℕ
next_length (Ok (Some r)) = text_length r
next_length (Ok None) = 0
next_length (Err e) = 0

-- WHAT next_request IS ANSWERED; a text begins the buffer
unfoldable pub next_line : rust.Result (Option EisRequest) Error → (buffer : List ℕ) → (explained : Bool) → List ℕ
unfolding bytes_of
next_line n buffer x = bytes_of (next_shown x n) (take (next_length n) buffer) ++ (0x0a ∷ [])

-- a line that is no call
unfoldable pub error_line : (number : ℕ) → List ℕ
unfolding bytes_of
error_line n = bytes_of (shown first_line n 0 0 0 0) [] ++ (0x0a ∷ [])

-- the script's own line, before its answer
unfoldable pub call_line : (call : List ℕ) → List ℕ
unfolding bytes_of
call_line call = bytes_of (shown (first_line + 1) 0 0 0 0 0) call ++ (0x0a ∷ [])
