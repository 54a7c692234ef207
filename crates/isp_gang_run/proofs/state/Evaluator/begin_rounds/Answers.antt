use Rattle.isp_gang_run.specs.Due.{own, rounds_due}
use Rattle.isp_gang_run.proofs.Fewer.{begins_fewer}
use Rattle.isp_gang_run.proofs.Progress.{leaves_within}
use Rattle.std.proofs.Common.{◌∙◌, ap₂, List, map}
use Rattle.isp_base.specs.Types.{gang_width}
use Rattle.isp_base.specs.declared.types.Gang.{Gang}
use Rattle.isp_meaning.specs.Rounds.{counted}
use Rattle.isp_gang_run.specs.Capped.{capped}
use Rattle.isp_gang_values.specs.Left.{range_seen}
use Rattle.isp_gang_values.specs.declared.ranges.Range.{Range}
use Rattle.isp_gang_run.proofs.Counts.{adds_capped}
use Rattle.isp_gang_run.proofs.Foreach.{begins_goes}
use Rattle.isp_gang_run.proofs.state.Evaluator.begin_rounds.Goals as goal

pub returns-clause-ok : goal.returns-clause-ok
returns-clause-ok c =
    begins_goes c.args.self.now c.rounds.new.self c.add.new.self c.in_ok-rounds.rounds c.args.ranges.items c.reset.new.ranges c.args.body c.args.set c.reset.ensures c.in_ok-rounds.ensures.ok
    (adds_capped c.args.self.now c.add.new.self c.counted-count.result (counted (gang_width c.args.self.now.program.now.gang) 1 (map range_seen c.args.ranges.items)) c.add.ensures
    (c.counted-count.ensures ∙ ap₂ (λ (g : Gang) (rs : List Range). capped (counted (gang_width g) 1 (map range_seen rs))) c.gang.ensures c.as_slice.ensures.value))
    c.in_ok-rounds-2.ensures.ok

pub returns-clause-fewer : goal.returns-clause-fewer
returns-clause-fewer c =
    leaves_within c.args.self.now c.rounds.new.self c.args.self.now.left _ (own c.args.self.now rounds_due c.in_ok-rounds.rounds.value) (begins_fewer c.args.self.now c.in_ok-rounds.rounds c.args.ranges.items c.reset.new.ranges c.args.body c.args.set c.reset.ensures c.in_ok-rounds.ensures.ok) c.in_ok-rounds-2.ensures.fewer
