-- A client's request, and nothing of any other call. Assumes nothing.
use mathlib.Core.Path.{◌≡◌, refl, sym, ap}
use mathlib.Core.List.{◌∷◌}
use mathlib.Core.Logic.{inl, inr}
use Rattle.std.specs.Prelude.{Err}
use native.Mathlib.Omega.{arith}
use denote.Enum.Declared.{tag_of}
use types.Run.{OneOf}
use Rattle.requests.proofs.Arms.{run, among}
use Rattle.script.specs.declared.text.Part.{Part}
use Rattle.script_asked.specs.declared.Asked.{Asked}
use Rattle.script_asked.specs.contracts.Asked.{the_type}
use Rattle.script_run.specs.declared.call.Why.{Why}
use Rattle.script_record.specs.Record.{record_of}
use Rattle.script_record.proofs.requested.Goals as goal

-- the tags are those of the arm that has no client's request
no_client : (a : Asked) (p : Part) → OneOf (0 ∷ 1 ∷ 2 ∷ 3 ∷ run 5 5) (tag_of the_type a) → Err Why.NoRecord ≡ record_of a p
no_client (Asked.Now n) p o = refl
no_client (Asked.Out n) p o = refl
no_client (Asked.Buffer n) p o = refl
no_client (Asked.Start n) p o = refl
no_client Asked.NextRequest p o = refl
no_client (Asked.Station call) p o = refl
no_client (Asked.Read n) p o = refl
no_client Asked.Message p o = refl
no_client (Asked.Event event) p o = refl
no_client (Asked.Client object version request) p (inl e) = absurd (omega (arith, e))
no_client (Asked.Client object version request) p (inr (inl e)) = absurd (omega (arith, e))
no_client (Asked.Client object version request) p (inr (inr (inl e))) = absurd (omega (arith, e))
no_client (Asked.Client object version request) p (inr (inr (inr (inl e)))) = absurd (omega (arith, e))
no_client (Asked.Client object version request) p (inr (inr (inr (inr o)))) = absurd (omega (arith, (among 5 5 4 o).0))

pub returns-in-Client : goal.returns-in-Client
returns-in-Client c = sym (ap (λ (a : Asked). record_of a c.args.part) c.in-Client.is)
