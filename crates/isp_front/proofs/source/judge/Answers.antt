use Rattle.isp_tree.specs.Views.{functions_of as tree_of}
use Rattle.isp_typed.specs.Views.{program_of}
use Rattle.isp_front.proofs.Fronts.{rate_fault}
use Rattle.isp_front.proofs.source.judge.Goals as goal

pub returns-clause-refused : goal.returns-clause-refused
returns-clause-refused c =
    rate_fault c.args.gang (tree_of c.args.tree.now) (program_of c.in_ok-typed.typed) c.check.result c.in_ok-typed.ensures.accepted c.check.ensures.refused
