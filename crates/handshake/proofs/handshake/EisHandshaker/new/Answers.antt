-- `handshake::handshake::EisHandshaker::new` meets its contract: the event was put, or there was no room for it. Assumes nothing.
use mathlib.Core.Path.{refl}
use Rattle.handshake.specs.View.{no_interfaces}
use Rattle.handshake.proofs.Answers.{fresh-view, fresh-sound, start-refused, start-accepted}
use Rattle.handshake.proofs.handshake.EisHandshaker.new.Goals as goal

pub returns-then-sent-eq0 : goal.returns-then-sent-eq0
unfolding no_interfaces
returns-then-sent-eq0 c =
    let serial = c.args.serial in
    let view = fresh-view serial c.no_name.ensures refl in
    let sound = fresh-sound serial _ c.no_name.ensures in
    start-refused _ serial view sound c.send-sent.ensures c.if-sent-eq0.true c.refused.ensures

pub returns : goal.returns
unfolding no_interfaces
returns c =
    let serial = c.args.serial in
    let view = fresh-view serial c.no_name.ensures refl in
    let sound = fresh-sound serial _ c.no_name.ensures in
    start-accepted _ serial view sound c.send-sent.ensures c.if-sent-eq0.false refl
