-- What a call answers, as numbers. Assumes nothing.
use Rattle.std.specs.Prelude.{ℕ, cond, Option, Some, None, Result, Ok, Err}
use Rattle.model.specs.Plan as plan
use Rattle.answers.specs.Answer.{number_of}
use Rattle.answers.specs.declared.Error.{Error}
use Rattle.answers.specs.declared.Outcome.{Outcome}
use Rattle.answers.specs.declared.Answer.{Answer}
use Rattle.answer_numbers.specs.declared.RefusedVersion.{RefusedVersion}

-- no refusal: nothing is queued, or the interface was not negotiated
abbrev pub none_number : ℕ
none_number = 64

-- an argument that stands for no case of its enum
abbrev pub bad_argument : ℕ
bad_argument = 65

-- no refusal: a message is not yet whole
abbrev pub wait_number : ℕ
wait_number = 66

-- the refusals that a message alone meets: "23 MALFORMED", "24 NO_OBJECT", "25 INVALID_ID"
abbrev pub malformed_number : ℕ
malformed_number = 23

abbrev pub no_object_number : ℕ
no_object_number = 24

abbrev pub invalid_id_number : ℕ
invalid_id_number = 25

-- the refusal that a record to be sent alone meets: "26 UNSENDABLE"
abbrev pub unsendable_number : ℕ
unsendable_number = 26

-- what a function answers where it is not refused
abbrev pub ending_status : Outcome → ℕ
ending_status Outcome.Accepted = 0
ending_status (Outcome.Seat id) = 0
ending_status (Outcome.Device id) = 0
ending_status (Outcome.Value n) = 0
ending_status (Outcome.Truth b) = 0
ending_status Outcome.None = none_number

-- what a function answers: the number of the refusal, 0 where there is none
abbrev pub status_of : Result Answer Error → ℕ
status_of (Ok a) = ending_status a.outcome
status_of (Err e) = number_of e

-- the id, the number or the truth that is answered; 0 where there is none
abbrev pub ending_value : Outcome → ℕ
ending_value Outcome.Accepted = 0
ending_value (Outcome.Seat id) = id
ending_value (Outcome.Device id) = id
ending_value (Outcome.Value n) = n
ending_value (Outcome.Truth b) = cond b 1 0
ending_value Outcome.None = 0

abbrev pub value_of : Result Answer Error → ℕ
value_of (Ok a) = ending_value a.outcome
value_of (Err e) = 0

-- a read is answered as a call is, by its first refusal
abbrev pub first_outcome : Option Error → Result Answer Error
first_outcome None = Ok (record { outcome = Outcome.Accepted; count = 0 })
first_outcome (Some e) = Err e

abbrev pub no_version : RefusedVersion
no_version = record { interface = 0; version = 0 }

-- "2 INTERFACE_VERSION, with interface and version"; 0 at any other outcome
abbrev pub version_in : plan.Result → RefusedVersion
version_in (plan.Result.refused_version i v) = record { interface = i; version = v }
version_in plan.Result.accepted = no_version
version_in (plan.Result.refused n) = no_version
version_in (plan.Result.seat id) = no_version
version_in (plan.Result.device id) = no_version
version_in (plan.Result.value n) = no_version
version_in (plan.Result.truth b) = no_version
version_in plan.Result.none = no_version
version_in plan.Result.given = no_version
