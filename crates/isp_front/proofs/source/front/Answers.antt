use Rattle.isp_tree.specs.Views.{functions_of as tree_of}
use Rattle.isp_lex.specs.declared.fault.SourceFault.TheVariants.{Memory}
use Rattle.isp_front.proofs.Fronts.{judged, unsound, only, err_match}
use Rattle.isp_front.proofs.source.front.Goals as goal

pub returns-clause-accepted : goal.returns-clause-accepted
returns-clause-accepted c =
    judged c.args.gang c.args.text.now (tree_of c.in_ok-tree.tree) c.judge.result c.in_ok-tree.ensures.found c.judge.ensures.accepted

pub returns-clause-only : goal.returns-clause-only
returns-clause-only c = λ program s.
    only c.args.gang c.args.text.now (tree_of c.in_ok-tree.tree) c.judge.result c.judge.ensures.accepted c.judge.ensures.refused program s (c.in_ok-tree.ensures.only s.tree s.has)

pub returns-clause-refused : goal.returns-clause-refused
returns-clause-refused c =
    unsound c.args.gang c.args.text.now (tree_of c.in_ok-tree.tree) c.judge.result c.in_ok-tree.ensures.found c.judge.ensures.refused

pub returns-in_err-tree-clause-only : goal.returns-in_err-tree-clause-only
returns-in_err-tree-clause-only c = λ program s. err_match c.from_residual.result _ Memory _ c.from_residual.ensures.1 (c.in_err-tree.ensures.only s.tree s.has)
