use Rattle.std.proofs.Common.{arith}
use Rattle.std.proofs.lemmas.Grind.{common_steps}
use Rattle.isp_gang_run.proofs.Fitting.{fit_more, fit_all}
use Rattle.isp_gang_run.proofs.starting.elements.Goals as goal

pub loop-place-preserved : goal.loop-place-preserved
loop-place-preserved c =
    record {
      sofar = grind (arith, common_steps);
      fits = fit_more c.loop-place.place c.args.array.now.elem c.args.array.now.bits c.at.result c.at.ensures.value c.at.ensures.fits c.loop-place.invariant.fits;
    }

pub returns-clause-fits : goal.returns-clause-fits
returns-clause-fits c = fit_all c.loop-place.place c.args.array.now.elem c.args.array.now.bits (omega (arith, c.loop-place-test.false, c.len-place-end.ensures)) c.loop-place.invariant.fits
