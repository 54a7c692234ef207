use Rattle.isp_solo_run.specs.Tasks.{does_task, store_seen}
use Rattle.isp_solo_run.specs.declared.tasks.Task.TheVariants as task
use Rattle.isp_solo_run.proofs.Nodes.{trap_tells}
use Rattle.isp_solo_run.proofs.Runs.{assert_stops, assert_goes, true_value, false_value}
use Rattle.isp_solo_run.proofs.Steps.{tells_by}
use Rattle.isp_solo_run.proofs.state.Single.assert.Goals as goal

pub returns-then-self-eq0 : goal.returns-then-self-eq0
returns-then-self-eq0 c =
    let old = c.args.self.now in
    trap_tells _ old (does_task old (task.Assert c.args.span)) c.trap.result _ c.trap.ensures (assert_stops old (store_seen old) c.args.span (false_value old.value c.if-self-eq0.true))

pub returns-else-self-eq0 : goal.returns-else-self-eq0
returns-else-self-eq0 c =
    let old = c.args.self.now in
    tells_by _ c.go_on.result old c.go_on.new.self _ _ (assert_goes old (store_seen old) c.args.span (true_value old.value c.if-self-eq0.false)) c.go_on.ensures
