use Rattle.std.proofs.Common.{arith}
use Rattle.isp_c.proofs.Runs.{fits_of, run_of}
use Rattle.isp_c.proofs.run.ran.Goals as goal

pub returns-clause-ok : goal.returns-clause-ok
returns-clause-ok c =
    run_of c.in_ok-image.image c.in-Ok-from_utf8.entry.now c.args.packed.now c.in_ok-bound.bound.arguments.items c.args.job.now.budget c.in_ok-bound.ensures.ok c.args.code.now
    c.args.job.now.entry.bytes.now c.in-Ok.text.now c.in-Ok.ensures.cases.0 c.in-Ok-from_utf8.ensures.cases.0 c.in_ok-image.ensures.ok c.executed.result c.executed.ensures.machine
    c.executed.ensures.means

pub returns-clause-fits : goal.returns-clause-fits
returns-clause-fits c =
    fits_of c.in_ok-image.image c.in-Ok-from_utf8.entry.now c.args.packed.now c.in_ok-bound.bound.arguments.items c.args.job.now.budget c.in_ok-bound.ensures.ok
    c.packed_laws.ensures.in_place c.packed_laws.ensures.only (λ k. let h = c.type_inv.packed k in omega (arith, h)) c.executed.result c.executed.ensures.machine
