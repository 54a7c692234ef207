use Rattle.isp_solo_meaning.specs.Places.{kept}
use Rattle.isp_solo_run.specs.Seen.{frame_seen, spot_seen}
use Rattle.isp_solo_run.specs.Tasks.{does_task}
use Rattle.isp_solo_run.specs.declared.tasks.Task.TheVariants as task
use Rattle.isp_solo_run.proofs.Nodes.{trap_tells}
use Rattle.isp_solo_run.proofs.Results.{at_ok}
use Rattle.isp_solo_run.proofs.Steps.{changed_tells}
use Rattle.isp_solo_run.proofs.Writes.{assign_outside, assign_kept}
use Rattle.isp_solo_run.proofs.state.Single.assign.Goals as goal

pub returns-then-is_outside : goal.returns-then-is_outside
returns-then-is_outside c =
    let old = c.args.self.now in
    trap_tells _ old (does_task old (task.Assign c.args.place c.args.span)) c.trap.result _ c.trap.ensures (assign_outside old c.args.place c.args.span c.is_outside.result c.is_outside.ensures c.if-is_outside.true)

pub returns-in-Ok : goal.returns-in-Ok
returns-in-Ok c =
    let old = c.args.self.now in
    changed_tells c.go_on.result old c.keep.new.self c.go_on.new.self (does_task old (task.Assign c.args.place c.args.span)) (kept (frame_seen old.here) (spot_seen c.args.place) old.value) (at_ok c.keep.result _ c.in-Ok.is c.keep.ensures)
    (assign_kept old c.args.place c.args.span c.is_outside.result c.is_outside.ensures c.if-is_outside.false) c.go_on.ensures
