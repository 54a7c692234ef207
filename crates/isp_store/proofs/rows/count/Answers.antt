use Rattle.std.proofs.Common.{sym, ap, ◌∙◌, length}
use Rattle.isp_base.specs.Rows.{Row}
use Rattle.isp_store.proofs.RowLists.{row_bits_at}
use Rattle.isp_store.proofs.rows.count.Goals as goal

pub returns : goal.returns
returns c = c.len.ensures ∙ ap (λ (r : Row). length r.bits) c.index-rows-array.is ∙ sym (ap length (row_bits_at c.args.rows.now c.args.array _ c.requires))
