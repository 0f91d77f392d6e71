-- What the handshake holds of the client, as numbers. Assumes nothing.
use mathlib.Core.Path.{refl, subst, ◌∙◌}
use Rattle.std.specs.Prelude.{Ok, Err}
use Rattle.lent_handshake.specs.Lent.{Named}
use Rattle.answer_numbers.proofs.Truth.{as_number}
use Rattle.bozterrun.proofs.handshakes.bozterrun_handshake_client.Goals as goal

pub returns-in-Err : goal.returns-in-Err
returns-in-Err c =
    let a = c.args in
    record {
      client = Err c.in-Err.error;
      named = subst (Named a.words.now a.name.now) c.in-Err.is c.who.ensures;
      status_is = c.number.ensures;
      given_is = refl;
      length_is = refl;
      context_is = refl;
    }

pub returns-in-Ok : goal.returns-in-Ok
returns-in-Ok c =
    let a = c.args in
    record {
      client = Ok c.in-Ok.client;
      named = subst (Named a.words.now a.name.now) c.in-Ok.is c.who.ensures;
      status_is = refl;
      given_is = c.from.ensures ∙ as_number c.in-Ok.client.given;
      length_is = refl;
      context_is = refl;
    }
