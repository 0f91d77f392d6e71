-- 21, 12 and 19 leave all as it was; else the event is sent, its serial is the last one, and the device is changed as the notice says. Assumes nothing.
use Rattle.answers.specs.Answer.{error_of}
use mathlib.Core.Path.{sym, ap, ◌∙◌, refl}
use mathlib.Core.List.{[]}
use native.Mathlib.Omega.{arith}
use lib.ListN.{length}
use Rattle.model.specs.Call.{Load}
use Rattle.model.specs.Edit.{next_serial}
use Rattle.eiproto.specs.Told.{told}
use Rattle.control.proofs.Sounds.{sound_bounds}
use Rattle.session.specs.View.{store}
use Rattle.session.proofs.Views.{found_bound}
use Rattle.answers.specs.declared.Error.{Error}
use Rattle.answers.proofs.Meetings.{unsound_answered, sound-answered, told-handled, ends}
use Rattle.removal.proofs.Retiring.{raise-count}
use Rattle.device.specs.Notice.{notice_call}
use Rattle.device.proofs.Plans.{notice_unknown}
use Rattle.device.proofs.Devices.{raise_one, notice_room, notice_short, notice_told}
use Rattle.device.proofs.notify.Goals as goal

pub returns-in_err-check_sound : goal.returns-in_err-check_sound
returns-in_err-check_sound c = λ clock. unsound_answered c.in_err-check_sound.ensures c.from_residual.ensures.1

pub find_device-requires : goal.find_device-requires
find_device-requires c =
    sound_bounds _ c.in_ok-check_sound.ensures

pub last_serial-requires : goal.last_serial-requires
last_serial-requires c =
    (sound_bounds _ c.in_ok-check_sound.ensures).long

-- 19
pub returns-then-out-fixed_length : goal.returns-then-out-fixed_length
returns-then-out-fixed_length c =
    let a = c.args in
    λ clock.
    sound-answered c.in_ok-check_sound.ensures
    (λ words reals texts whole.
    notice_short (store a.control.now words reals texts) whole a.out.now a.device clock a.notice _
    (sym c.find_device.ensures ∙ ap told c.in-Some.is) (c.next_serial-serial.ensures ∙ ap next_serial c.last_serial.ensures)
    c.event_of-told.ensures c.fixed_length.ensures (omega arith) (refl, refl))

pub send-count-requires : goal.send-count-requires
send-count-requires c =
    notice_room c.args.notice _ _ (length c.args.out.now) c.event_of-told.ensures c.fixed_length.ensures (omega arith)

pub raise-requires : goal.raise-requires
raise-requires c =
    sound_bounds _ c.in_ok-check_sound.ensures

pub enact-requires : goal.enact-requires
enact-requires c =
    let a = c.args in
    let e = sym c.find_device.ensures ∙ ap told c.in-Some.is in
    let r = c.raise.ensures 1 (raise_one _ (c.next_serial-serial.ensures ∙ ap next_serial c.last_serial.ensures)) in
    ((r [] [] [] Load.None).sound, omega (arith, raise-count r, found_bound (store a.control.now [] [] []) a.device e))

-- sent
pub returns : goal.returns
returns c =
    let a = c.args in
    λ clock.
    sound-answered c.in_ok-check_sound.ensures
    (λ words reals texts whole.
    notice_told (store a.control.now words reals texts) whole a.out.now a.device clock a.notice _
    (sym c.find_device.ensures ∙ ap told c.in-Some.is) (c.next_serial-serial.ensures ∙ ap next_serial c.last_serial.ensures)
    c.event_of-told.ensures c.fixed_length.ensures (omega (arith, c.if-out-fixed_length.false)) c.send-count.ensures c.raise.ensures
    c.enact.ensures (ends c.sent.ensures))

-- 12
pub returns-in_default : goal.returns-in_default
returns-in_default c =
    let a = c.args in
    λ clock.
    sound-answered c.in_ok-check_sound.ensures
    (λ words reals texts whole.
    let s = store a.control.now words reals texts in
    told-handled s a.out.now (notice_call a.notice a.device) clock (error_of Error.UnknownHandle) _ whole
    (notice_unknown s a.device clock (sym c.find_device.ensures ∙ ap told c.in_default.is) a.notice) (refl, refl))
