-- Lines of an event's message and record, worked out. Assumes nothing.
use mathlib.Core.Path.{◌≡◌, refl}
use mathlib.Core.Bool.{true, false}
use mathlib.Core.List.{[], ◌∷◌}
use Rattle.eiproto.specs.Interface.{ascii}
use Rattle.event_messages.specs.declared.MessageError.{MessageError}
use Rattle.std.specs.Prelude.{Ok, Err}
use Rattle.script_asked.specs.declared.Event.{Event}
use Rattle.script_pattern.specs.Digits.{hexadecimal, ident, decimal}
use Rattle.script_show.specs.Records.{number_at, kind_of}
use Rattle.script_events.specs.Shown.{event_line}

-- the bytes behind those that were written are not shown
message : event_line (Event.Write 5) (Ok 2) (0x0a ∷ 0xff ∷ 7 ∷ []) true ≡ ascii "message t:0aff\n"
unfolding event_line ascii decimal hexadecimal
message = refl

empty : event_line (Event.Read 5) (Ok 0) (7 ∷ []) true ≡ ascii "record t:\n"
unfolding event_line ascii decimal hexadecimal
empty = refl

resumed : event_line (Event.Read 5) (Ok 14) (0x48 ∷ 14 ∷ 0xff ∷ 0 ∷ 0 ∷ 0 ∷ 0 ∷ 0 ∷ 0 ∷ 2 ∷ 0 ∷ 0 ∷ 0 ∷ 1 ∷ []) true
    ≡ ascii "record t:480eff0000000000000200000001\n    0xff00000000000002: resumed, serial 1\n"
unfolding event_line ascii decimal hexadecimal ident number_at kind_of
resumed = refl

unsendable : event_line (Event.Write 5) (Err MessageError.Unsendable) (7 ∷ []) true ≡ ascii "refused 26 (unsendable)\n"
unfolding event_line ascii decimal
unsendable = refl

-- without a case of ParseError
malformed : event_line (Event.Read 5) (Err MessageError.Malformed) (7 ∷ []) false ≡ ascii "refused 23\n"
unfolding event_line ascii decimal
malformed = refl

short : event_line (Event.Read 5) (Err MessageError.ShortOut) [] true ≡ ascii "refused 19 (short out)\n"
unfolding event_line ascii decimal
short = refl
