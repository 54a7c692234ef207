use Rattle.std.proofs.Common.{◌∙◌, ap, map, subst}
use Rattle.std.specs.Prelude.{IfOk}
use Rattle.isp_solo_run.specs.Ends.{IsRunOf}
use Rattle.isp_solo_run.specs.Seen.{passed_seen}
use Rattle.isp_solo_run.proofs.Outcomes.{entry_is}
use Rattle.isp_solo_run.proofs.running.run_alone.Goals as goal

pub returns : goal.returns
returns c =
    subst (λ v. IfOk c.came_to.result (IsRunOf v))
    (entry_is c.begun-single.result _ c.args.function c.args.arguments.now c.in_ok-sizes.sizes.items (map passed_seen c.as_slice-2.result.now)
    (ap (map (λ r. r.now)) c.as_slice.ensures.value ∙ c.in_ok-bound.ensures) c.in_ok-sizes.ensures (ap (map passed_seen) c.as_slice-2.ensures.value ∙ c.in_ok-passed.ensures)
    c.begun-single.ensures.setting c.begun-single.ensures.left c.begun-single.ensures.frame c.begun-single.ensures.state)
    c.came_to.ensures
