use Rattle.isp_gang_run.proofs.Openings.{starts}
use Rattle.isp_gang_run.proofs.evaluator.started.Goals as goal

pub returns-clause-starts : goal.returns-clause-starts
returns-clause-starts c =
    starts c.args.program c.args.turns c.args.arguments.now c.evaluator.result c.in_ok-stores.stores.items c.in_ok-sizes.sizes.items
    c.in_ok-stores.ensures.same c.in_ok-sizes.ensures c.evaluator.ensures.program c.evaluator.ensures.turns c.evaluator.ensures.left
    c.evaluator.ensures.frame c.evaluator.ensures.state c.evaluator.ensures.nothing c.evaluator.ensures.work
