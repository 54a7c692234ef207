use Rattle.isp_c.specs.Tracing.{window_of}
use Rattle.isp_c.proofs.Traces.{trace_of}
use Rattle.isp_c.proofs.trace.traced.Goals as goal

pub returns-clause-ok : goal.returns-clause-ok
returns-clause-ok c =
    trace_of c.in_ok-image.image c.in-Ok-from_utf8.entry.now c.args.packed.now c.in_ok-bound.bound.arguments.items (window_of c.args.trace.now) c.args.trace.now.job.budget
    c.in_ok-bound.ensures.ok c.args.code.now c.args.trace.now.job.entry.bytes.now c.in-Ok.text.now c.in-Ok.ensures.cases.0 c.in-Ok-from_utf8.ensures.cases.0
    c.in_ok-image.ensures.ok c.stepped.result c.stepped.ensures.ok
