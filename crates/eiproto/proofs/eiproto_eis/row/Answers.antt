-- The table that the code has is the definition's. Assumes nothing.
use mathlib.Core.Path.{refl, ap, ◌∙◌}
use mathlib.Core.List.{[], ◌∷◌}
use native.Mathlib.Omega.{arith}
use Rattle.eiproto.specs.Interface.{Row, table, interface_name, server_version}
use Rattle.eiproto.specs.declared.eiproto_eis.Interface.{Interface}
use Rattle.eiproto.proofs.Interface.{column, lent, past}
use Rattle.eiproto.proofs.eiproto_eis.row.Goals as goal

pub returns-then-number-gt12-clause-name : goal.returns-then-number-gt12-clause-name
unfolding interface_name
returns-then-number-gt12-clause-name c = ap (λ (r : Row). r.name) (past c.args.number (omega arith))

pub returns-then-number-gt12-clause-version : goal.returns-then-number-gt12-clause-version
unfolding server_version
returns-then-number-gt12-clause-version c = ap (λ (r : Row). r.version) (past c.args.number (omega arith))

pub returns-clause-name : goal.returns-clause-name
unfolding interface_name table
returns-clause-name c = column (λ (r : Interface). r.name.now) (λ (r : Row). r.name) (lent (_ ∷ _ ∷ _ ∷ _ ∷ _ ∷ _ ∷ _ ∷ _ ∷ _ ∷ _ ∷ _ ∷ _ ∷ _ ∷ []) table) _ c.from.result refl (omega arith) ∙ ap interface_name c.from.ensures

pub returns-clause-version : goal.returns-clause-version
unfolding server_version table
returns-clause-version c = column (λ (r : Interface). r.version) (λ (r : Row). r.version) (lent (_ ∷ _ ∷ _ ∷ _ ∷ _ ∷ _ ∷ _ ∷ _ ∷ _ ∷ _ ∷ _ ∷ _ ∷ _ ∷ []) table) _ c.from.result refl (omega arith) ∙ ap server_version c.from.ensures
