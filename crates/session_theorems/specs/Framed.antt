-- EACH PRESS IN ONE FRAME, told of the code: of calls, whole reads and messages on slices that hold a fresh session, and of a connection from its handshake's first call
-- on. model/specs/Framed has the statement's words. proofs/Framed.antt proves the statements. Assumes nothing.
use Rattle.std.specs.Prelude.{ℕ, ◌+◌, ◌≡◌, true, false, List, [], ◌∷◌, ◌++◌, map, Result}
use Rattle.std.proofs.Math.Option.{Option}
use Rattle.model.specs.Call.{Load, Plain, Call}
use Rattle.model.specs.Session.{Untimed, Device, fresh}
use Rattle.model.specs.Step.{refuses}
use Rattle.model.specs.Demand3.{taken}
use Rattle.model.specs.Framed.{Places, stands, gone_from, places_after, numbered, load_at, EachPress, Closes, Closed}
use Rattle.session.specs.View.{Store, session, Lending}
use Rattle.answers.specs.Answer.{outcome_of}
use Rattle.answers.specs.Meets.{Answered}
use Rattle.answers.specs.declared.Answer.{Answer}
use Rattle.answers.specs.declared.Error.{Error}
use Rattle.handshake.specs.View.{response_in, versions_of}
use Rattle.session_theorems.specs.Trail.{Exchange, turn_of, slices_after, serial_in}
use Rattle.session_theorems.specs.Made.{Made, after_made, FreshMade, delivered_in, Replaced}
use Rattle.session_theorems.specs.Served.{Served, finish_of, Serves}

-- the devices that calls removed, each as the slices held it before the call that removed it
unfoldable pub removed_to : Store → List Exchange → List (Device Load)
unfolding gone_from slices_after
removed_to s [] = []
removed_to s (x ∷ xs) = let e = slices_after s (x ∷ []) in gone_from (session e).devices (session s).devices ++ removed_to e xs

-- Where requests are: what the answers and the text buffers told, what the slices hold, and what they held of devices that were removed. In a read each request is a
-- call, so a removal among its requests loses what was pending before that request: `singles` are the calls, each read's and each message's one by one
abbrev pub places_in : Store → (singles : List Exchange) → List Made → Places Load
places_in s singles xs =
    let after = session (after_made s xs) in
    record { delivered = delivered_in xs; queued = after.requests; devices = after.devices; removed = removed_to s singles }

pub record EachPressSeen (c n i : ℕ) (vs : List (Option ℕ)) (s : Store) (xs : List Made) : Type 0 where
  pub replaced : Replaced s xs
  pub each_press :
      let singles = replaced.singles in
      let ts = map turn_of singles in
      EachPress (λ d. taken c n i vs d ts) (load_at ts) (places_after (numbered 0 ts) (fresh c n i vs)) (places_in s singles xs)

abbrev pub AlwaysEachPressSeen : Type 0
AlwaysEachPressSeen = (c n i : ℕ) (vs : List (Option ℕ)) (s : Store) (xs : List Made) → FreshMade c n i vs s xs → EachPressSeen c n i vs s xs

abbrev pub AlwaysEachPressServed : Type 0
AlwaysEachPressServed =
    (x : Served) → Serves x →
    let settled = response_in (finish_of x).outcome in
    EachPressSeen settled.connection settled.serial (settled.connection + 1) (versions_of settled.interfaces) x.slices x.calls

-- A request that closes the frame of a device that stands, on the slices that such calls left, and is not refused: all that was pending on the device is queued in one
-- run, and nothing is pending on it
abbrev pub SeenFrameTakesAll : Type 0
SeenFrameTakesAll =
    (c n i : ℕ) (vs : List (Option ℕ)) (s : Store) (xs : List Made) → FreshMade c n i vs s xs →
    let before = after_made s xs in
    (l : Lending) (e : Store) (out later : List ℕ) (request : Plain) (clock : ℕ) (answer : Result Answer Error) (device serial time : ℕ) (behind : List Untimed) →
    Answered l before e out later (Call.plain request) clock answer → Closes device (serial_in before) clock request serial time behind →
    stands device (session before).devices ≡ true → refuses (outcome_of answer) ≡ false → Closed device serial time behind (session before) (session e)
