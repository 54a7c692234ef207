use Rattle.std.proofs.Common.{◌∙◌, rules}
use Rattle.std.proofs.lemmas.Result.{on_ok_weaker}
use Rattle.isp_asm.proofs.Pages.{header_written}
use Rattle.isp_asm.proofs.page.Page.header.Goals as goal

pub returns : goal.returns
returns c =
    on_ok_weaker c.feed.result
    (λ e. e ∙ header_written c.args.gang c.version_of.result c.width.result c.args.self.now c.head.new.self c.number.new.self c.word.new.self
    c.number-2.new.self (search rules) (search rules) (search rules) (search rules) (search rules) (search rules))
    c.feed.ensures
