use Rattle.std.proofs.Common.{sym, ap, ◌∙◌, not}
use Rattle.isp_base.specs.declared.operators.Compare.TheVariants.{Equal, NotEqual, Less, LessOrEqual, Greater, GreaterOrEqual}
use Rattle.isp_base.proofs.Compares.{compare_at}
use Rattle.isp_base.proofs.Words.{same_number, word_less}
use Rattle.isp_machine.proofs.order.compare.Goals as goal

pub returns-in-Equal : goal.returns-in-Equal
returns-in-Equal c = compare_at c.args.comparison Equal c.in-Equal.is c.args.elem c.args.x c.args.y _ (sym (same_number c.args.elem c.args.x c.args.y c.requires.x_fits c.requires.y_fits))

pub returns-in-NotEqual : goal.returns-in-NotEqual
returns-in-NotEqual c = compare_at c.args.comparison NotEqual c.in-NotEqual.is c.args.elem c.args.x c.args.y _ (ap not (sym (same_number c.args.elem c.args.x c.args.y c.requires.x_fits c.requires.y_fits)))

pub returns-in-Less : goal.returns-in-Less
returns-in-Less c =
    compare_at c.args.comparison Less c.in-Less.is c.args.elem c.args.x c.args.y _ (c.is_less.ensures ∙ word_less c.args.elem c.args.x c.args.y c.requires.x_fits c.requires.y_fits)

pub returns-in-LessOrEqual : goal.returns-in-LessOrEqual
returns-in-LessOrEqual c =
    compare_at c.args.comparison LessOrEqual c.in-LessOrEqual.is c.args.elem c.args.x c.args.y _
    (ap not (c.is_less-in-LessOrEqual.ensures ∙ word_less c.args.elem c.args.y c.args.x c.requires.y_fits c.requires.x_fits))

pub returns-in-Greater : goal.returns-in-Greater
returns-in-Greater c =
    compare_at c.args.comparison Greater c.in-Greater.is c.args.elem c.args.x c.args.y _
    (c.is_less-in-Greater.ensures ∙ word_less c.args.elem c.args.y c.args.x c.requires.y_fits c.requires.x_fits)

pub returns-in-GreaterOrEqual : goal.returns-in-GreaterOrEqual
returns-in-GreaterOrEqual c =
    compare_at c.args.comparison GreaterOrEqual c.in-GreaterOrEqual.is c.args.elem c.args.x c.args.y _
    (ap not (c.is_less-in-GreaterOrEqual.ensures ∙ word_less c.args.elem c.args.x c.args.y c.requires.x_fits c.requires.y_fits))
