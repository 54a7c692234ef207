use Rattle.std.proofs.Common.{inl, inr}
use Rattle.std.proofs.lemmas.Result.{IfOk-weaker}
use Rattle.isp_tree.specs.Views.{functions_of as tree_of}
use Rattle.isp_faults.proofs.source.of_text.Goals as goal

pub returns-in-Ok : goal.returns-in-Ok
returns-in-Ok c = IfOk-weaker c.of_tree.result _ _ (λ v h. inr (tree_of c.in-Ok.tree, c.in-Ok.ensures.found, h)) c.of_tree.ensures

pub returns-in-Err-Refused : goal.returns-in-Err-Refused
returns-in-Err-Refused c = IfOk-weaker c.alone.result _ _ (λ v h. inl (c.in-Err-Refused.fault, c.in-Err-Refused.ensures.refused c.in-Err-Refused.fault c.in-Err-Refused.field-0-is, h)) (rw c.in-Err-Refused.field-0-is at c.alone.ensures)
