use Rattle.std.proofs.Common.{◌<◌, rules, arith, append_assoc}
use Rattle.isp_wasm_write.specs.Settings.{setting}
use Rattle.isp_wasm_vectors.proofs.PickBytes.{pick_more}
use Rattle.isp_wasm_vectors.proofs.picks.+picked.Goals as goal

pub returns : goal.returns
returns t c =
    let some : 0 < c.args.count = omega arith in
    let e = pick_more (setting c.args.kernel.now) c.args.pick.now c.args.count some in
    search (rules, append_assoc, e)
