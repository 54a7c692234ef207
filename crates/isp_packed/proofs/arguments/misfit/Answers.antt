use Rattle.std.proofs.Common.{arith}
use Rattle.isp_packed.specs.Packing.{size}
use Rattle.isp_packed.proofs.Elements.{all_fit, no_truth_found}
use Rattle.isp_packed.proofs.Sizes.{width_whole}
use Rattle.isp_packed.proofs.arguments.misfit.Goals as goal

pub returns-in-Bool-clause-some : goal.returns-in-Bool-clause-some
returns-in-Bool-clause-some c =
    no_truth_found c.args.number c.args.count c.args.elem c.args.bytes.now c.no_bool.result c.in-Bool.is c.no_bool.ensures.some

pub returns-in_default-clause-none : goal.returns-in_default-clause-none
returns-in_default-clause-none c =
    all_fit (size c.args.elem) c.args.elem c.args.count c.args.bytes.now (width_whole c.args.elem c.in_default.not-Bool) (λ k. let h = c.type_inv.bytes k in omega (arith, h))
