-- A refusal for each request, after the tests of its text. Assumes nothing.
use mathlib.Core.Logic.{inl, inr}
use mathlib.Core.Path.{sym, ap, ◌∙◌, refl}
use native.Mathlib.Omega.{arith}
use borrow.Author.Tests.{not-true, not-false}
use Rattle.session.specs.View.{store}
use Rattle.handlers.specs.Call.{handshake_call}
use Rattle.requests.specs.declared.eis.HandshakeRequest.{HandshakeRequest}
use Rattle.handlers.proofs.Plain.{for_call, name-bad, name-long, name_late, interface-bad, interface_late, version_late, finish_late, context_late}
use Rattle.std.proofs.lemmas.Bool.{not_from_false, not_from_true}
use Rattle.handlers.proofs.handle_handshake_request.Goals as goal

pub returns-then-not-valid : goal.returns-then-not-valid
returns-then-not-valid c =
    let a = c.args in
    λ d out clock w r texts whole.
    for_call clock (ap (λ (x : HandshakeRequest). handshake_call x a.text.now) c.in-Name.is)
    (name-bad (store d w r texts) out clock _ whole a.text.now (sym c.valid.ensures ∙ not-true _ (not_from_false _ c.if-not-valid.true)) (refl, refl))

pub returns-then-text-gt-NAME_LENGTH_LIMIT : goal.returns-then-text-gt-NAME_LENGTH_LIMIT
returns-then-text-gt-NAME_LENGTH_LIMIT c =
    let a = c.args in
    λ d out clock w r texts whole.
    for_call clock (ap (λ (x : HandshakeRequest). handshake_call x a.text.now) c.in-Name.is)
    (name-long (store d w r texts) out clock _ whole a.text.now (sym c.valid.ensures ∙ not-false _ (not_from_true _ c.if-not-valid.false)) (omega arith) (refl, refl))

pub returns-then-not-valid-2 : goal.returns-then-not-valid-2
returns-then-not-valid-2 c =
    let a = c.args in
    λ d out clock w r texts whole.
    for_call clock (ap (λ (x : HandshakeRequest). handshake_call x a.text.now) c.in-InterfaceVersion.is)
    (interface-bad (store d w r texts) out clock _ whole a.text.now _ (sym c.valid-in-InterfaceVersion.ensures ∙ not-true _ (not_from_false _ c.if-not-valid-2.true)) (refl, refl))

pub returns-else-text-gt-NAME_LENGTH_LIMIT : goal.returns-else-text-gt-NAME_LENGTH_LIMIT
returns-else-text-gt-NAME_LENGTH_LIMIT c =
    let a = c.args in
    λ d out clock w r texts whole.
    for_call clock (ap (λ (x : HandshakeRequest). handshake_call x a.text.now) c.in-Name.is)
    (name_late (store d w r texts) out clock _ whole a.text.now (sym c.valid.ensures ∙ not-false _ (not_from_true _ c.if-not-valid.false)) (omega arith) (refl, refl))

pub returns-else-not-valid-2 : goal.returns-else-not-valid-2
returns-else-not-valid-2 c =
    let a = c.args in
    λ d out clock w r texts whole.
    for_call clock (ap (λ (x : HandshakeRequest). handshake_call x a.text.now) c.in-InterfaceVersion.is)
    (interface_late (store d w r texts) out clock _ whole a.text.now _ (sym c.valid-in-InterfaceVersion.ensures ∙ not-false _ (not_from_true _ c.if-not-valid-2.false)) (refl, refl))

pub returns-in-HandshakeVersion : goal.returns-in-HandshakeVersion
returns-in-HandshakeVersion c =
    let a = c.args in
    λ d out clock w r texts whole.
    elim c.in-HandshakeVersion.is [
      | inl version ↦ for_call clock (ap (λ (x : HandshakeRequest). handshake_call x a.text.now) version.1) (version_late (store d w r texts) out clock _ whole (refl, refl) _)
      | inr rest ↦ elim rest [
        | inl finish ↦ for_call clock (ap (λ (x : HandshakeRequest). handshake_call x a.text.now) finish) (finish_late (store d w r texts) out clock _ whole (refl, refl))
        | inr context ↦ for_call clock (ap (λ (x : HandshakeRequest). handshake_call x a.text.now) context.1) (context_late (store d w r texts) out clock _ whole (refl, refl) _)
      ]
    ]
