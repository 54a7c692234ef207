use Rattle.std.proofs.Common.{subst, sym, ℕ, ◌<◌, ◌^◌}
use Rattle.isp_base.specs.Values.{width}
use Rattle.isp_base.proofs.Wraps.{wrap_to-lt}
use Rattle.isp_machine.proofs.scalars.binary.Goals as goal

pub returns-clause-fits : goal.returns-clause-fits
returns-clause-fits c = subst (λ (v : ℕ). v < 2 ^ width c.args.elem) (sym c.apply_nonzero.ensures) (wrap_to-lt (width c.args.elem) _)
