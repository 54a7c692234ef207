use Rattle.isp_syntax.proofs.Promised.{one_tree}
use Rattle.isp_syntax.proofs.program.one_tree.Goals as goal

pub returns : goal.returns
returns c = λ ts fs gs i j. one_tree ts fs gs i j
