-- What a device is told by the station's calls with one event. Assumes nothing.
use Rattle.std.specs.Prelude.{ℕ, List, [], ◌∷◌}
use Rattle.wire.specs.declared.event.Event.{Event}
use Rattle.model.specs.Call.{Plain}
use Rattle.model.specs.Edit.{Amend, Edit}
use Rattle.device.specs.declared.Notice.{Notice}

-- the call that tells a device something
abbrev pub notice_call : Notice → (device : ℕ) → Plain
notice_call Notice.Resumed d = Plain.resumed d
notice_call Notice.Paused d = Plain.paused d
notice_call (Notice.StartEmulating sequence) d = Plain.start_emulating d sequence
notice_call Notice.StopEmulating d = Plain.stop_emulating d
notice_call (Notice.Frame time) d = Plain.frame d time

-- the event that it is told, by its serial
abbrev pub notice_event : Notice → (serial : ℕ) → Event
notice_event Notice.Resumed s = Event.Resumed s
notice_event Notice.Paused s = Event.Paused s
notice_event (Notice.StartEmulating sequence) s = Event.StartEmulating s sequence
notice_event Notice.StopEmulating s = Event.StopEmulating s
notice_event (Notice.Frame time) s = Event.Frame s time

-- what it changes of the device in a slot: "`paused` empties the held touches"
abbrev pub notice_edits : Notice → (slot : ℕ) → List Edit
notice_edits Notice.Resumed k = []
notice_edits Notice.Paused k = Edit.amend k Amend.clear_touches ∷ []
notice_edits (Notice.StartEmulating sequence) k = []
notice_edits Notice.StopEmulating k = []
notice_edits (Notice.Frame time) k = []
