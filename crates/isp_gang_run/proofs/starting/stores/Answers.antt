use Rattle.std.proofs.Common.{arith}
use Rattle.isp_gang_run.proofs.Fitting.{arguments_end}
use Rattle.isp_gang_run.proofs.starting.stores.Goals as goal

pub returns-clause-fits : goal.returns-clause-fits
returns-clause-fits c = arguments_end c.loop-place.place c.args.arguments.now (omega (arith, c.loop-place-test.false)) c.loop-place.invariant.fits
