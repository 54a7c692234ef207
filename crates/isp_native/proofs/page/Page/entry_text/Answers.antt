use Rattle.std.proofs.Common.{◌∙◌, rules}
use Rattle.std.proofs.lemmas.Result.{on_ok_weaker}
use Rattle.isp_code.specs.Listing.{routine_of}
use Rattle.isp_native.proofs.Pieces.{entry_written}
use Rattle.isp_native.proofs.page.Page.entry_text.Goals as goal

pub returns : goal.returns
returns c =
    on_ok_weaker c.text-2.result
    (λ e. e ∙ entry_written c.args.number (routine_of c.args.function.now) c.args.self.now c.prototype.new.self c.number.new.self c.text.new.self c.all_given.new.self (search rules) c.in_ok-number.ensures (search rules) (search rules))
    c.text-2.ensures
