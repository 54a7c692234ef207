use Rattle.std.proofs.Common.{◌+◌, drop}
use Rattle.isp_tree.specs.Views.{param_of as read_param}
use Rattle.isp_types.specs.Functions.{param_variable}
use Rattle.isp_types.proofs.Joined.{split_at, behind_step}
use Rattle.isp_types.proofs.FunctionSteps.{params_step, params_names_step}
use Rattle.isp_types.proofs.function.declare_all.Goals as goal

pub loop-p-preserved : goal.loop-p-preserved
loop-p-preserved c =
    let v = c.in_ok-fault.ensures in
    let h = c.loop-p.invariant in
    let xs = c.args.all.now in
    let i = c.loop-p.p-index in
    let x = c.p-item.result in
    let split = split_at xs i x c.loop-p-test.true c.p-item.is in
    record {
      fault = λ gang hs answer b. rw (c.first-seen.ensures, v.fault, v.names, v.variables)
          (params_step gang hs answer c.loop-p.scope c.loop-p.variables.items (drop i xs) (drop (i + 1) xs) b _ c.loop-p.seen x split (h.fault gang hs answer b));
      names = rw (v.names, v.variables) (params_names_step c.loop-p.scope c.loop-p.variables.items (drop i xs) (drop (i + 1) xs) _ x split h.names);
      variables = rw v.variables (behind_step param_variable read_param xs i x _ c.loop-p.variables.items c.loop-p-test.true c.p-item.is h.variables);
    }
