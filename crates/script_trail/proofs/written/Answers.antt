-- What each thing to tell is shown as. Assumes nothing.
use mathlib.Core.Path.{sym, ap}
use Rattle.script_pattern.proofs.Puts.{put_none, put_is}
use Rattle.script_run.specs.declared.call.Told.{Told}
use Rattle.script_trail.specs.Trail.{line_of}
use Rattle.script_trail.proofs.written.Goals as goal

pub returns-in-Nothing : goal.returns-in-Nothing
returns-in-Nothing c =
    let a = c.args in
    put_is (put_none a.shown.now 0) (ap (λ (t : Told). line_of a.took.run t a.out.now a.explained) (sym c.in-Nothing.is))

pub returns-in-Error : goal.returns-in-Error
returns-in-Error c =
    let a = c.args in
    put_is c.error_line.ensures (ap (λ (t : Told). line_of a.took.run t a.out.now a.explained) (sym c.in-Error.is))

pub returns-in-Shaken : goal.returns-in-Shaken
returns-in-Shaken c =
    let a = c.args in
    put_is c.handshake_answer.ensures (ap (λ (t : Told). line_of a.took.run t a.out.now a.explained) (sym c.in-Shaken.is))

pub returns-in-Answered : goal.returns-in-Answered
returns-in-Answered c =
    let a = c.args in
    put_is c.answer.ensures (ap (λ (t : Told). line_of a.took.run t a.out.now a.explained) (sym c.in-Answered.is))

pub returns-in-Given : goal.returns-in-Given
returns-in-Given c =
    let a = c.args in
    put_is c.next.ensures (ap (λ (t : Told). line_of a.took.run t a.out.now a.explained) (sym c.in-Given.is))

pub returns-in-Begun : goal.returns-in-Begun
returns-in-Begun c =
    let a = c.args in
    put_is (put_none a.shown.now 0) (ap (λ (t : Told). line_of a.took.run t a.out.now a.explained) (sym c.in-Begun.is))

pub returns-in-Gathered : goal.returns-in-Gathered
returns-in-Gathered c =
    let a = c.args in
    put_is (put_none a.shown.now 0) (ap (λ (t : Told). line_of a.took.run t a.out.now a.explained) (sym c.in-Gathered.is))

pub returns-in-Handed : goal.returns-in-Handed
returns-in-Handed c =
    let a = c.args in
    put_is c.read_answer.ensures (ap (λ (t : Told). line_of a.took.run t a.out.now a.explained) (sym c.in-Handed.is))

pub returns-in-Received : goal.returns-in-Received
returns-in-Received c =
    let a = c.args in
    put_is c.message_answer.ensures (ap (λ (t : Told). line_of a.took.run t a.out.now a.explained) (sym c.in-Received.is))

pub returns-in-ShakenBy : goal.returns-in-ShakenBy
returns-in-ShakenBy c =
    let a = c.args in
    put_is c.handshake_message_answer.ensures (ap (λ (t : Told). line_of a.took.run t a.out.now a.explained) (sym c.in-ShakenBy.is))

pub returns-in-Turned : goal.returns-in-Turned
returns-in-Turned c =
    let a = c.args in
    put_is c.event_answer.ensures (ap (λ (t : Told). line_of a.took.run t a.out.now a.explained) (sym c.in-Turned.is))
