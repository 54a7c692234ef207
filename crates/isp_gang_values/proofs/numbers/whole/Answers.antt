use Rattle.std.proofs.Common.{◌∙◌, arith}
use Rattle.std.specs.Int.{w128}
use Rattle.std.proofs.lemmas.Int.{ints, to_z-of_z}
use Rattle.isp_gang_values.proofs.Wholes.{number_low}
use Rattle.isp_gang_values.proofs.numbers.whole.Goals as goal

pub returns-clause-low : goal.returns-clause-low
returns-clause-low c =
    let e = to_z-of_z w128 c.number.result (record { sfits = c.number.type_inv }) ∙ c.number.ensures in
    let l = number_low c.args.elem c.args.bits in
    omega (arith, ints, e, l)
