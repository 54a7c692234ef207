use Rattle.std.proofs.Common.{arith}
use Rattle.isp_registers.specs.Growth.{name_of}
use Rattle.isp_registers.proofs.Lemmas.{number_below}
use Rattle.isp_lower.proofs.scope.given.Goals as goal

pub overflow_cast-result : goal.overflow_cast-result
overflow_cast-result c = omega (arith, number_below c.args.rows.now (name_of c.args.name) c.args.elem c.requires.there, c.in-Some.ensures.number, c.requires.few)
