use Rattle.std.proofs.Common.{ap, ◌∙◌, not}
use Rattle.isp_base.specs.declared.operators.Compare.TheVariants.{Equal, NotEqual, Less, LessOrEqual, Greater, GreaterOrEqual}
use Rattle.isp_base.proofs.Compares.{equal_low, less_low, compare_at}
use Rattle.isp_base.proofs.order.compare.Goals as goal

pub returns-in-Equal : goal.returns-in-Equal
returns-in-Equal c =
    compare_at c.args.comparison Equal c.in-Equal.is c.args.elem c.args.x c.args.y _
    (equal_low c.args.elem c.args.x c.args.y c.low_bits-x.result c.low_bits-y.result c.low_bits-x.ensures c.low_bits-y.ensures)

pub returns-in-NotEqual : goal.returns-in-NotEqual
returns-in-NotEqual c =
    compare_at c.args.comparison NotEqual c.in-NotEqual.is c.args.elem c.args.x c.args.y _
    (ap not (equal_low c.args.elem c.args.x c.args.y c.low_bits-x.result c.low_bits-y.result c.low_bits-x.ensures c.low_bits-y.ensures))

pub returns-in-Less : goal.returns-in-Less
returns-in-Less c =
    compare_at c.args.comparison Less c.in-Less.is c.args.elem c.args.x c.args.y _
    (c.is_less.ensures ∙ less_low c.args.elem c.args.x c.args.y c.low_bits-x.result c.low_bits-y.result c.low_bits-x.ensures c.low_bits-y.ensures)

pub returns-in-LessOrEqual : goal.returns-in-LessOrEqual
returns-in-LessOrEqual c =
    compare_at c.args.comparison LessOrEqual c.in-LessOrEqual.is c.args.elem c.args.x c.args.y _
    (ap not (c.is_less-in-LessOrEqual.ensures ∙ less_low c.args.elem c.args.y c.args.x c.low_bits-y.result c.low_bits-x.result c.low_bits-y.ensures c.low_bits-x.ensures))

pub returns-in-Greater : goal.returns-in-Greater
returns-in-Greater c =
    compare_at c.args.comparison Greater c.in-Greater.is c.args.elem c.args.x c.args.y _
    (c.is_less-in-Greater.ensures ∙ less_low c.args.elem c.args.y c.args.x c.low_bits-y.result c.low_bits-x.result c.low_bits-y.ensures c.low_bits-x.ensures)

pub returns-in-GreaterOrEqual : goal.returns-in-GreaterOrEqual
returns-in-GreaterOrEqual c =
    compare_at c.args.comparison GreaterOrEqual c.in-GreaterOrEqual.is c.args.elem c.args.x c.args.y _
    (ap not (c.is_less-in-GreaterOrEqual.ensures ∙ less_low c.args.elem c.args.x c.args.y c.low_bits-x.result c.low_bits-y.result c.low_bits-x.ensures c.low_bits-y.ensures))
