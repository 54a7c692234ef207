use Rattle.std.proofs.Common.{◌<◌, rules, arith, append_assoc}
use Rattle.isp_wasm_write.specs.Settings.{setting}
use Rattle.isp_wasm_vectors.proofs.PickBytes.{first_more}
use Rattle.isp_wasm_vectors.proofs.folds.+first_value.Goals as goal

pub returns : goal.returns
returns t c =
    let some : 0 < c.args.left = omega arith in
    let e = first_more (setting c.args.kernel.now) c.args.vector c.args.mask c.args.left c.args.number some in
    search (rules, append_assoc, e)
