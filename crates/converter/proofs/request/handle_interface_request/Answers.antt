-- Each kind of request on an interface. Assumes nothing.
use mathlib.Core.Path.{ap}
use Rattle.requests.specs.declared.eis.InterfaceRequest.{InterfaceRequest}
use Rattle.handlers.specs.Call.{interface_call}
use Rattle.handlers.proofs.Plain.{for_call}
use Rattle.converter.proofs.request.handle_interface_request.Goals as goal

pub returns-in-Pointer-clause-step : goal.returns-in-Pointer-clause-step
returns-in-Pointer-clause-step c =
    let a = c.args in
    λ clock.
    for_call clock (ap (λ (x : InterfaceRequest). interface_call x a.interface a.version a.text.now) c.in-Pointer.is)
    (c.handle_pointer_request.ensures.step a.version clock a.texts.now c.requires)

pub returns-in-PointerAbsolute-clause-step : goal.returns-in-PointerAbsolute-clause-step
returns-in-PointerAbsolute-clause-step c =
    let a = c.args in
    λ clock.
    for_call clock (ap (λ (x : InterfaceRequest). interface_call x a.interface a.version a.text.now) c.in-PointerAbsolute.is)
    (c.handle_pointer_absolute_request.ensures.step a.version clock a.texts.now c.requires)

pub returns-in-Scroll-clause-step : goal.returns-in-Scroll-clause-step
returns-in-Scroll-clause-step c =
    let a = c.args in
    λ clock.
    for_call clock (ap (λ (x : InterfaceRequest). interface_call x a.interface a.version a.text.now) c.in-Scroll.is)
    (c.handle_scroll_request.ensures.step a.version clock a.texts.now c.requires)

pub returns-in-Button-clause-step : goal.returns-in-Button-clause-step
returns-in-Button-clause-step c =
    let a = c.args in
    λ clock.
    for_call clock (ap (λ (x : InterfaceRequest). interface_call x a.interface a.version a.text.now) c.in-Button.is)
    (c.handle_button_request.ensures.step a.version clock a.texts.now c.requires)

pub returns-in-Keyboard-clause-step : goal.returns-in-Keyboard-clause-step
returns-in-Keyboard-clause-step c =
    let a = c.args in
    λ clock.
    for_call clock (ap (λ (x : InterfaceRequest). interface_call x a.interface a.version a.text.now) c.in-Keyboard.is)
    (c.handle_keyboard_request.ensures.step a.version clock a.texts.now c.requires)

pub returns-in-Touchscreen-clause-step : goal.returns-in-Touchscreen-clause-step
returns-in-Touchscreen-clause-step c =
    let a = c.args in
    λ clock.
    for_call clock (ap (λ (x : InterfaceRequest). interface_call x a.interface a.version a.text.now) c.in-Touchscreen.is)
    (c.handle_touchscreen_request.ensures.step clock a.texts.now c.requires)

pub returns-in-Text-clause-step : goal.returns-in-Text-clause-step
returns-in-Text-clause-step c =
    let a = c.args in
    λ clock.
    for_call clock (ap (λ (x : InterfaceRequest). interface_call x a.interface a.version a.text.now) c.in-Text.is)
    (c.handle_text_request.ensures.step a.version clock)
