use Rattle.isp_typed.specs.Views.{stmts_of}
use Rattle.isp_gang_run.specs.Due.{all_due, block_due, own}
use Rattle.isp_typed.specs.Typed.{TBlock}
use Rattle.std.proofs.Common.{List, ap, sym, ◌∙◌}
use Rattle.isp_typed.specs.declared.stmt.TypedStmt.{TypedStmt}
use Rattle.isp_gang_run.proofs.Progress.{leaves_as}
use Rattle.isp_gang_run.proofs.Blocks.{block_comes, block_view}
use Rattle.isp_gang_run.proofs.state.Evaluator.block.Goals as goal

pub returns-clause-ok : goal.returns-clause-ok
returns-clause-ok c =
    block_comes c.args.self.now c.statements.new.self c.tick.new.self c.tick.ensures c.args.block c.args.set c.as_slice.result.now c.none.result
    c.as_slice.ensures.value c.none.ensures.broke c.none.ensures.continued c.none.ensures.returned c.in_ok-statements.ensures.ok

pub returns-clause-fewer : goal.returns-clause-fewer
returns-clause-fewer c =
    leaves_as c.args.self.now c.statements.new.self c.args.self.now.left (ap (λ (b : TBlock). own c.args.self.now block_due b) (block_view c.args.block.now)
    ∙ ap (λ (xs : List TypedStmt). own c.args.self.now all_due (stmts_of xs)) (sym c.as_slice.ensures.value)) c.in_ok-statements.ensures.fewer
