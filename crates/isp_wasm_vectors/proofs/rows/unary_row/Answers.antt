use Rattle.std.proofs.Common.{◌++◌, ◌∙◌, ap}
use Rattle.isp_wasm_write.specs.Operands.{part_expr}
use Rattle.isp_wasm_write.specs.Settings.{setting}
use Rattle.isp_wasm.specs.Templates.{vector_local}
use Rattle.isp_wasm_vectors.proofs.RowParts.{unary_from}
use Rattle.isp_wasm_vectors.proofs.rows.unary_row.Goals as goal

pub returns : goal.returns
returns c =
    c.in_ok-unary_part.ensures ∙ ap (λ bs. c.args.out.now ++ bs)
    (unary_from c.args.op c.args.elem (part_expr c.in_ok-value.value) (vector_local (setting c.args.kernel.now) c.args.value) c.args.part c.in_ok-value.ensures)
