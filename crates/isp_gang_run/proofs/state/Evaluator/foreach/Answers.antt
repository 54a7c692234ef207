use Rattle.isp_gang_values.specs.Left.{range_seen}
use Rattle.isp_gang_values.specs.declared.ranges.Range.{Range}
use Rattle.isp_gang_run.proofs.Progress.{leaves_as}
use Rattle.isp_gang_run.specs.Due.{bounds_due, own}
use Rattle.std.proofs.Common.{List, ap, map, sym}
use Rattle.isp_typed.specs.Views.{ranges_of}
use Rattle.isp_gang_run.proofs.Foreach.{foreach_comes}
use Rattle.isp_gang_run.proofs.state.Evaluator.foreach.Goals as goal

pub returns-clause-ok : goal.returns-clause-ok
returns-clause-ok c =
    foreach_comes c.args.self.now c.bounds.new.self c.args.body c.args.set c.tick.new.self c.tick.ensures (ranges_of c.args.ranges.now) c.new-done.result.items c.new-done.ensures.items c.in_ok-bounds.ensures.ok

pub returns-clause-fewer : goal.returns-clause-fewer
returns-clause-fewer c =
    leaves_as c.args.self.now c.bounds.new.self c.args.self.now.left (ap (λ (ds : List Range). own c.args.self.now bounds_due (ranges_of c.args.ranges.now) (map range_seen ds) c.args.body) (sym c.new-done.ensures.items)) c.in_ok-bounds.ensures.fewer
