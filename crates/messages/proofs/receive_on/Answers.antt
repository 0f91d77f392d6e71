-- By what the first message is read as; where that is a request, by what it is answered. Assumes nothing.
use Prim.Native.Nat.{ℕ}
use mathlib.Core.Path.{◌≡◌, refl, sym, ap, ◌∙◌}
use native.Mathlib.Omega.{arith}
use lib.ListN.{length-take}
use Rattle.std.specs.Prelude.{Ok, Some}
use Rattle.std.specs.Prelude as rust
use Rattle.parse.proofs.Firsts.{first-within}
use Rattle.messages.specs.Reading.{read_as}
use Rattle.messages.proofs.Bytes.{read_is}
use Rattle.messages.proofs.receive_on.Goals as goal

pub slice_bounds-hand_on-end : goal.slice_bounds-hand_on-end
slice_bounds-hand_on-end c =
    let e : c.read_first.result ≡ Ok (Some c.in-Ok-Some.first) = cc in
    let w = first-within _ _ _ _ (sym e ∙ c.read_first.ensures) in
    simp length-take (omega (arith, w.room))

pub hand_on-answer-requires : goal.hand_on-answer-requires
hand_on-answer-requires c =
    let e : c.read_first.result ≡ Ok (Some c.in-Ok-Some.first) = cc in
    (c.requires.0, (first-within _ _ _ _ (sym e ∙ c.read_first.ensures)).text)

pub returns-in-Ok-None-clause-step : goal.returns-in-Ok-None-clause-step
unfolding read_as
returns-in-Ok-None-clause-step c =
    let a = c.args in
    let e : c.read_first.result ≡ Ok rust.None = cc in
    rw (read_is a.object a.alive.interface a.alive.version a.message.now c.read_first.ensures e) (refl, (refl, refl))

pub returns-in-Err-clause-step : goal.returns-in-Err-clause-step
unfolding read_as
returns-in-Err-clause-step c =
    let a = c.args in
    rw (read_is a.object a.alive.interface a.alive.version a.message.now c.read_first.ensures c.in-Err.is) (refl, (refl, refl))

pub returns-in-Ok-Some-clause-step : goal.returns-in-Ok-Some-clause-step
unfolding read_as
returns-in-Ok-Some-clause-step c =
    let a = c.args in
    let e : c.read_first.result ≡ Ok (Some c.in-Ok-Some.first) = cc in
    rw (read_is a.object a.alive.interface a.alive.version a.message.now c.read_first.ensures e)
    (record {
      answer = c.hand_on-answer.result;
      told = ap (λ (n : ℕ). Ok (record { answer = c.hand_on-answer.result; taken = n })) c.taken_of-taken.ensures;
      handled = c.hand_on-answer.ensures.step;
    })
