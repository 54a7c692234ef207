use Rattle.std.proofs.Common.{arith}
use Rattle.isp_wasm_write.proofs.Passed.{params_step}
use Rattle.isp_wasm_write.proofs.locals.push_params.Goals as goal

pub loop-param-preserved : goal.loop-param-preserved
loop-param-preserved c =
    let i = c.loop-param.param-index in
    let said = c.in_ok-before.ensures in
    let so_far = c.loop-param.invariant in
    record {
      scalars = omega (arith, said.scalars, so_far.scalars);
      vectors = omega (arith, said.vectors, so_far.vectors);
      arrays = omega (arith, said.arrays, so_far.arrays);
      same = params_step c.args.caller c.args.lanes c.args.params.now i _ _ _ _ _ _ _ _ _ _ (omega arith) c.param-item.is said.pushed so_far.same;
    }
