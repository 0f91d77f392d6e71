-- Each arm is the call of its request; a text that is not UTF-8 is refused first. Assumes nothing.
use mathlib.Core.Path.{refl, sym, ap, ◌∙◌}
use borrow.Author.Tests.{not-true, not-false}
use Rattle.requests.specs.Row.{entry}
use Rattle.requests.specs.declared.request.EisRequest.{EisRequest}
use Rattle.model.specs.Call.{Input, sight, load}
use Rattle.model.specs.Edit.{item}
use Rattle.model.specs.Decide.{handler}
use Rattle.session.specs.View.{store, request_in, item_in, request_at, item_at}
use Rattle.handlers.specs.Call.{text_call}
use Rattle.requests.specs.declared.eis.TextRequest.{TextRequest}
use Rattle.answers.proofs.Meetings.{lent-still}
use Rattle.handlers.proofs.Plain.{for_call}
use Rattle.handlers.proofs.Timed.{row-waits, utf8-bad}
use Rattle.std.proofs.lemmas.Bool.{not_from_false, not_from_true}
use Rattle.handlers.proofs.handle_text_request.Goals as goal

pub returns-then-not-valid-clause-step : goal.returns-then-not-valid-clause-step
returns-then-not-valid-clause-step c =
    let a = c.args in
    λ version clock.
    for_call clock (ap (λ (x : TextRequest). text_call x a.interface version a.text.now) c.in-Utf8.is)
    (utf8-bad (store a.session.now.control.now a.session.now.words.now a.session.now.reals.now a.texts.now) a.out.now clock _ c.requires a.text.now a.interface version (sym c.valid.ensures ∙ not-true _ (not_from_false _ c.if-not-valid.true)) (refl, refl))

pub queue_utf8-requires : goal.queue_utf8-requires
queue_utf8-requires c =
    (c.requires, sym c.valid.ensures ∙ not-false _ (not_from_true _ c.if-not-valid.false))

pub invariant_of-session : goal.invariant_of-session
invariant_of-session c =
    record { lent = lent-still 0 c.args.session.now.lent (c.release_interface.ensures 0) }

pub returns-in-Release-clause-step : goal.returns-in-Release-clause-step
returns-in-Release-clause-step c =
    let a = c.args in
    λ version clock.
    for_call clock (ap (λ (x : TextRequest). text_call x a.interface version a.text.now) c.in-Release.is)
    (c.release_interface.ensures clock a.session.now.words.now a.session.now.reals.now a.texts.now c.requires)

pub returns-in-Keysym-clause-step : goal.returns-in-Keysym-clause-step
unfolding handler sight load item item_at request_at request_in item_in entry
returns-in-Keysym-clause-step c =
    let a = c.args in
    λ version clock.
    for_call clock (ap (λ (x : TextRequest). text_call x a.interface version a.text.now) c.in-Keysym.is)
    (c.queue_for_interface.ensures.step version clock (Input.Keysym _ _) (record { by = refl; valid = refl })
    (row-waits (Input.Keysym _ _) (EisRequest.TextKeysym 0 0 _ _) c.text_keysym-request.ensures (λ t. refl)) a.out.now a.texts.now c.requires)

pub returns-else-not-valid-clause-step : goal.returns-else-not-valid-clause-step
returns-else-not-valid-clause-step c =
    let a = c.args in
    λ version clock.
    for_call clock (ap (λ (x : TextRequest). text_call x a.interface version a.text.now) c.in-Utf8.is)
    (c.queue_utf8.ensures.step version clock a.out.now)
