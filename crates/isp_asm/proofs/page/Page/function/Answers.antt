use Rattle.std.proofs.Common.{◌∙◌, rules}
use Rattle.std.proofs.lemmas.Result.{on_ok_weaker}
use Rattle.isp_code.specs.Listing.{routine_of}
use Rattle.isp_asm.proofs.Pages.{routine_written}
use Rattle.isp_asm.proofs.page.Page.function.Goals as goal

pub returns : goal.returns
returns c =
    on_ok_weaker c.end.result
    (λ e. e ∙ routine_written (routine_of c.args.function.now) c.args.self.now c.func.new.self c.params.new.self c.locals.new.self c.scalars.new.self
    c.vectors.new.self c.masks.new.self c.code.new.self (search rules) (search rules) (search rules) (search rules) (search rules) (search rules)
    (search rules))
    c.end.ensures
