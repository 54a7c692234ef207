use Rattle.std.proofs.Common.{subst, sym, ℕ, ◌<◌, ◌^◌}
use Rattle.isp_base.specs.Values.{number, width}
use Rattle.isp_machine.proofs.Converts.{convert_lt}
use Rattle.isp_machine.proofs.scalars.converted.Goals as goal

pub returns-clause-fits : goal.returns-clause-fits
returns-clause-fits c = subst (λ (v : ℕ). v < 2 ^ width c.args.to) (sym c.convert.ensures) (convert_lt c.args.to (number c.args.from c.args.bits))
