use Rattle.std.proofs.Common.{◌++◌, ◌∙◌, ap}
use Rattle.isp_wasm_write.specs.Operands.{part_expr}
use Rattle.isp_wasm_write.specs.Settings.{setting}
use Rattle.isp_wasm.specs.Templates.{vector_local}
use Rattle.isp_wasm_vectors.proofs.RowParts.{below_from}
use Rattle.isp_wasm_vectors.proofs.rows.below_row.Goals as goal

pub returns : goal.returns
returns c =
    let x = vector_local (setting c.args.kernel.now) in
    c.in_ok-below_part.ensures ∙ ap (λ bs. c.args.out.now ++ bs) (below_from c.args.elem (part_expr c.in_ok-left.left) (part_expr c.in_ok-right.right) (x c.args.pair.0) (x c.args.pair.1) c.args.part c.in_ok-left.ensures c.in_ok-right.ensures)
