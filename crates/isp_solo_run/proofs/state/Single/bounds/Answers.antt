use Rattle.isp_solo_run.proofs.Foreach.{bounds_end_tells, bounds_next_tells}
use Rattle.std.proofs.Common.{refl, map, arith}
use Rattle.isp_gang_values.specs.Left.{range_seen}
use Rattle.isp_solo_run.specs.Tasks.{store_seen}
use Rattle.isp_solo_run.proofs.Foreach.{bounds_end, bounds_next}
use Rattle.isp_solo_run.proofs.Lists.{nothing_left, headed}
use Rattle.isp_solo_run.proofs.Results.{at_found}
use Rattle.isp_solo_run.proofs.Steps.{tells_by}
use Rattle.isp_solo_run.proofs.state.Single.bounds.Goals as goal

pub returns-in-empty : goal.returns-in-empty
returns-in-empty c =
    let old = c.args.self.now in
    bounds_end_tells c.begin_rounds.result old c.begin_rounds.new.self c.args.rest.now (map range_seen c.args.done.items) c.args.body (nothing_left c.args.rest.now c.in-empty.len_below) c.begin_rounds.ensures

pub returns-in-Ok : goal.returns-in-Ok
returns-in-Ok c =
    let old = c.args.self.now in
    bounds_next_tells c.both.result old c.both.new.self c.args.rest.now _ _ c.args.done c.args.body c.in-Ok.bounds
    (record { ref_ptr = (0, 0); now = c.range-item.result.start })
    (headed c.args.rest.now c.range-item.result (omega (arith, c.in-len1-up.len_at_least)) c.range-item.is)
    (at_found _ c.new.result _ c.in-Ok.is c.new.ensures.ok) refl
    c.both.ensures
