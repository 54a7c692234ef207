use Rattle.std.proofs.Common.{refl, ap, ◌∙◌}
use Rattle.isp_typed.specs.Typed.{t_block}
use Rattle.isp_types.proofs.StmtTrees.{typed_block_view, typed_inner_view}
use Rattle.isp_types.proofs.make.empty_stmt.Goals as goal

pub returns : goal.returns
returns c = typed_inner_view _ ∙ (ap t_block (typed_block_view _) ∙ rw c.new.ensures.items refl)
