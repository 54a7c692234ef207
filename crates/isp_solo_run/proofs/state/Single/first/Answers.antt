use Rattle.isp_solo_run.proofs.Runs.{no_first_tells}
use Rattle.isp_solo_run.specs.Tasks.{Firsts}
use Rattle.std.proofs.Common.{subst}
use Rattle.std.proofs.Common.{◌∙◌, ap, sym, Bor, Option, Some}
use Rattle.std.specs.Prelude.{option_map}
use Rattle.isp_typed.specs.Views.{first_of}
use Rattle.isp_typed.specs.declared.stmt.TypedFirst.{TypedFirst}
use Rattle.isp_solo_run.specs.Tasks.{firsts, store_seen}
use Rattle.isp_solo_run.specs.declared.loops.Turning.{Turning}
use Rattle.isp_solo_run.proofs.Results.{at_found}
use Rattle.isp_solo_run.proofs.Runs.{no_first}
use Rattle.isp_solo_run.proofs.Steps.{tells_by}
use Rattle.isp_solo_run.proofs.state.Single.first.Goals as goal

pub returns-in-None : goal.returns-in-None
returns-in-None c =
    let old = c.args.self.now in
    no_first_tells c.later.result old c.later.new.self c.args.turning c.in-Ok.after _ (at_found _ c.new.result _ c.in-Ok.is c.new.ensures.ok)
    (ap (option_map (λ (x : Bor TypedFirst). first_of x.now)) c.in-None.is) c.later.ensures

pub returns-in-Some : goal.returns-in-Some
returns-in-Some c =
    let old = c.args.self.now in
    subst (λ (o : Option (Bor TypedFirst)). Firsts c.some_first.result old c.some_first.new.self (option_map (λ (x : Bor TypedFirst). first_of x.now) o) c.args.turning) (sym c.in-Some.is)
    (subst (λ (t : Turning). Firsts c.some_first.result old c.some_first.new.self (Some (first_of c.in-Some.first.now)) t) (at_found _ c.new.result _ c.in-Ok.is c.new.ensures.ok)
    c.some_first.ensures)
