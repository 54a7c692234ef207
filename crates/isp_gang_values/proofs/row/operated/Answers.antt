use Rattle.std.proofs.Common.{◌∙◌}
use Rattle.isp_gang_values.proofs.Divisions.{rest, quotient}
use Rattle.isp_gang_values.proofs.row.operated.Goals as goal

pub returns-in-Rem : goal.returns-in-Rem
returns-in-Rem c = c.low_bits.ensures ∙ rest c.args.operator c.args.elem c.args.x c.args.y c.in-Rem.is c.in-Err.ensures

pub returns-in_default : goal.returns-in_default
returns-in_default c = quotient c.args.operator c.args.elem c.args.x c.args.y c.in_default.not-Rem c.in-Err.ensures
