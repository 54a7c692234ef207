use Rattle.isp_runs.proofs.BoundRuns.{given_same, refuses, runs_bound, stands}
use Rattle.isp_runs.proofs.bound.run.Goals as goal

pub returns-in-Ok-clause-ran : goal.returns-in-Ok-clause-ran
returns-in-Ok-clause-ran g c =
    let code = c.args.code.now in
    let entry = c.args.entry.now in
    let xs = c.args.bound.arguments.items in
    let begins = c.in-Ok.ensures.starts in
    let gives = c.run-stop.ensures in
    runs_bound code entry xs c.args.budget _ _ begins _ gives c.left.result c.left.ensures.stop
    (c.left.ensures.leaves _ (given_same code entry xs c.args.budget _ _ begins _ gives) (stands code entry xs c.args.budget _ _ begins _ gives))

pub returns-in-Err-clause-refused : goal.returns-in-Err-clause-refused
returns-in-Err-clause-refused g c = refuses c.args.code.now c.args.entry.now c.args.bound.arguments.items c.in-Err.refused.1 c.in-Err.ensures.none c.in-Err.ensures.memory
