use Rattle.std.proofs.Common.{sym, ◌∙◌}
use Rattle.isp_forms.specs.Tables.{lists_of}
use Rattle.isp_constants.specs.reader.Passing.{lists_in}
use Rattle.isp_constants.proofs.Holding.{amounts_hold}
use Rattle.isp_constants.proofs.checker.check.Goals as goal

pub returns : goal.returns
returns c = λ e. amounts_hold (lists_in c.args.constants.now) (lists_of c.args.forms.now) c.args.code.now (sym c.all_pass.ensures ∙ e)
