use Rattle.std.proofs.Common.{arith}
use Rattle.isp_lower_code.specs.Rows.{Kept}
use Rattle.isp_registers.proofs.Lemmas.{number_below}
use Rattle.isp_lower.proofs.scope.kept_in.Goals as goal

pub overflow_cast-result : goal.overflow_cast-result
overflow_cast-result c =
    omega (arith, number_below c.args.rows.now (Kept c.args.elem c.args.bits) c.in-Some.field-0-1 c.in-Some.ensures.elem, c.in-Some.ensures.number, c.requires)
