use Rattle.std.proofs.Common.{◌∙◌}
use Rattle.std.proofs.lemmas.Result.{on_ok_weaker}
use Rattle.isp_native.proofs.Pieces.{head_written}
use Rattle.isp_native.proofs.page.Page.first.Goals as goal

pub returns : goal.returns
returns c = on_ok_weaker c.text.result (λ e. e ∙ head_written c.args.width c.args.self.now c.number.new.self c.in_ok-number.ensures) c.text.ensures
