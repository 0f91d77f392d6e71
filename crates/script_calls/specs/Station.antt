-- The calls of the model that the station's calls of a script are, and what is promised of them. Assumes nothing.
use Rattle.std.specs.Prelude.{ℕ, Bool, true, false, List, [], Option, Some, None, Result}
use Rattle.std.specs.Borrow.{Bor}
use Rattle.model.specs.Call.{Plain, Call}
use Rattle.session.specs.View.{Lending}
use Rattle.session.specs.Slices.{Numbers, Reals, rows_before, rows_after, optional}
use Rattle.answers.specs.declared.Answer.{Answer}
use Rattle.answers.specs.declared.Error.{Error}
use Rattle.answers.specs.Meets.{Answered}
use Rattle.script_asked.specs.declared.Add.{Add}
use Rattle.script_asked.specs.declared.Remove.{Remove}
use Rattle.script_asked.specs.declared.Tell.{Tell}
use Rattle.script_asked.specs.declared.Ask.{Ask}
use Rattle.script_asked.specs.declared.Station.{Station}

-- the line's text, as it is lent: whether there is one, and its bytes
abbrev pub is_lent : Option (Bor (List ℕ)) → Bool
is_lent None = false
is_lent (Some t) = true

abbrev pub lent_bytes : Option (Bor (List ℕ)) → List ℕ
lent_bytes None = []
lent_bytes (Some t) = t.now

-- `given` tells whether the line's text is, where it may be missing
abbrev pub add_call : Add → (given : Bool) → (text : List ℕ) → Plain
add_call (Add.Seat caps) given text = Plain.add_seat (optional given text) caps
add_call (Add.Device seat kind caps) given text = Plain.add_device seat (optional given text) kind caps

abbrev pub remove_call : Remove → (given : Bool) → (text : List ℕ) → Plain
remove_call (Remove.Seat seat) given text = Plain.remove_seat seat
remove_call (Remove.Device device) given text = Plain.remove_device device
remove_call (Remove.All reason) given text = Plain.disconnected reason (optional given text)

abbrev pub tell_call : Tell → Plain
tell_call (Tell.Resumed device) = Plain.resumed device
tell_call (Tell.Paused device) = Plain.paused device
tell_call (Tell.StartEmulating device sequence) = Plain.start_emulating device sequence
tell_call (Tell.StopEmulating device) = Plain.stop_emulating device
tell_call (Tell.Frame device time) = Plain.frame device time

abbrev pub ask_call : Ask → (text : List ℕ) → Plain
ask_call Ask.LastSerial text = Plain.last_serial
ask_call Ask.HasInterface text = Plain.has_interface text
ask_call Ask.InterfaceVersion text = Plain.interface_version text
ask_call (Ask.HasCapability device capability) text = Plain.has_capability device capability

-- WHICH CALL OF THE STATION IT IS
abbrev pub station_call : Station → (given : Bool) → (text : List ℕ) → Plain
station_call (Station.Add a) given text = add_call a given text
station_call (Station.Remove a) given text = remove_call a given text
station_call (Station.Tell a) given text = tell_call a
station_call (Station.Ask a) given text = ask_call a text

-- what of the session it is lent: the calls that take devices out the rows of requests too
abbrev pub lending : Station → Lending
lending (Station.Add a) = Lending.control
lending (Station.Remove a) = Lending.rows
lending (Station.Tell a) = Lending.control
lending (Station.Ask a) = Lending.control

-- the call is made, and nothing else: at any clock and whatever the texts are
abbrev pub PromiseStation : (control words : Numbers) (reals : Reals) (out : Numbers) → Station → (text : Option (Bor (List ℕ))) → Result Answer Error → Type 0
PromiseStation c w r out a text answer =
    (clock : ℕ) (t : List ℕ)
    → Answered (lending a) (rows_before c w r t) (rows_after c w r t) out.entry.now out.exit.now (Call.plain (station_call a (is_lent text) (lent_bytes text))) clock answer
