use Rattle.std.proofs.Common.{rules}
use Rattle.isp_bind.proofs.Binds.{text_bound}
use Rattle.isp_bind.proofs.arguments.bind.Goals as goal

pub returns-clause-bound : goal.returns-clause-bound
returns-clause-bound c =
    text_bound c.args.signature.now.params.items c.args.text.now c.in_ok-arguments.arguments.items (search rules)
