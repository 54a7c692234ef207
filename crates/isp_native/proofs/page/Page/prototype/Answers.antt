use Rattle.std.proofs.Common.{◌∙◌, rules}
use Rattle.std.proofs.lemmas.Result.{on_ok_weaker}
use Rattle.isp_code.specs.Listing.{routine_of}
use Rattle.isp_native.proofs.Pieces.{prototype_written}
use Rattle.isp_native.proofs.page.Page.prototype.Goals as goal

pub returns : goal.returns
returns c =
    on_ok_weaker c.entry_result.result
    (λ e. e ∙ prototype_written (routine_of c.args.function.now) c.args.self.now c.text.new.self c.text-2.new.self c.text-3.new.self c.all_taken.new.self c.in_ok-text.ensures (search rules) c.in_ok-text-3.ensures (search rules))
    c.entry_result.ensures
