use Rattle.std.proofs.Common.{arith}
use Rattle.isp_cells.proofs.Indices.{outside_few, outside_many}
use Rattle.isp_cells.proofs.index.limit.Goals as goal

pub returns-then-count : goal.returns-then-count
returns-then-count c = outside_few c.args.count (omega (arith, c.if-count.true))

pub returns-else-count : goal.returns-else-count
returns-else-count c = outside_many c.args.count (omega (arith, c.if-count.false))
