-- What the benchmark sends and takes: calls one after another, each as its contract has it, each on the slices that the one before left. Assumes nothing.
use Rattle.std.specs.Prelude.{◌≡◌, ℕ, zero, suc, ◌+◌, ◌%◌, ◌^◌, List, [], ◌∷◌, ◌++◌, length, replicate, pos, from_bits, Option, Some, None, Result, Ok, Err}
use Rattle.std.specs.Float.{binary32}
use Rattle.std.specs.Float.Ieee.{of_int}
use Rattle.eiproto.specs.declared.eiproto_enum.KeyState.{KeyState}
use Rattle.model.specs.Call.{Input, Call}
use Rattle.session.specs.View.{Store, Lending}
use Rattle.session.specs.Slices.{Numbers, Reals, before, after}
use Rattle.answers.specs.Meets.{Answered}
use Rattle.answers.specs.declared.Answer.{Answer}
use Rattle.answers.specs.declared.Error.{Error}
use Rattle.converter.specs.Next.{Delivered}
use Rattle.requests.specs.declared.request.EisRequest.{EisRequest}

-- a client's requests, at the clock 5, with 16 bytes lent for events
pub data Sent : Store → List (Call Input) → Store → Type 0 where
  none : {s : Store} → Sent s [] s
  sent : {s m e : Store} {call : Call Input} {calls : List (Call Input)} {later : List ℕ} {answer : Result Answer Error} → Answered Lending.all s m (replicate 16 0) later call 5 answer
      → Sent m calls e → Sent s (call ∷ calls) e

-- the same, of the slices that a function is lent
abbrev pub Sends : (control words : Numbers) (reals : Reals) (texts : Numbers) → List (Call Input) → Type 0
Sends c w r t calls = Sent (before c w r t) calls (after c w r t)

-- the first device that `begin` adds; its interface, where it has one alone, is the next id
abbrev pub device : ℕ
device = 0xff00_0000_0000_0002

-- every request is of version 2
abbrev pub key : (keyboard code : ℕ) → KeyState → Call Input
key keyboard code state = Call.timed keyboard 2 (Input.Key code state)

-- a press and a release
abbrev pub keys : (keyboard code : ℕ) → List (Call Input)
keys keyboard code = key keyboard code KeyState.Press ∷ key keyboard code KeyState.Released ∷ []

-- a touch that goes down, moves to where it is, and goes up
abbrev pub stroke : (i : ℕ) → List (Call Input)
stroke i =
    let touch = i % 2 ^ 32 in
    let x = of_int binary32 (pos (i % 65536)) in
    let y = from_bits binary32 0x4000_0000 in
    Call.timed (device + 1) 2 (Input.Down touch x y) ∷ Call.timed (device + 1) 2 (Input.Motion touch x y) ∷ Call.timed (device + 1) 2 (Input.Up touch) ∷ []

-- presses of the keys 0 to n - 1
unfoldable pub presses : ℕ → List (Call Input)
presses zero = []
presses (suc n) = presses n ++ (key (device + 1) n KeyState.Press ∷ [])

-- whether `next_request` gave one
abbrev pub given_by : Result (Option EisRequest) Error → ℕ
given_by (Ok (Some r)) = 1
given_by (Ok None) = 0
given_by (Err e) = 0

-- `next_request` asked so often, with a text buffer of so many bytes, and how many requests it gave
pub data Asked (room : ℕ) : (times : ℕ) → Store → Store → (given : ℕ) → Type 0 where
  none : {s : Store} → Asked room 0 s s 0
  asked : {times given : ℕ} {s m e : Store} {buffer later : List ℕ} {answer : Result (Option EisRequest) Error} → Asked room times s m given → length buffer ≡ room
      → Delivered m e buffer later answer → Asked room (times + 1) s e (given + given_by answer)
