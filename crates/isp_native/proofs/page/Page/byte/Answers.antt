use Rattle.std.specs.Prelude.{◌/◌, ◌%◌, codes}
use Rattle.std.specs.Char.{digit_char}
use Rattle.std.proofs.Common.{◌∙◌, rules}
use Rattle.std.proofs.lemmas.Result.{on_ok_weaker}
use Rattle.isp_native.proofs.Pieces.{and_two}
use Rattle.isp_native.proofs.page.Page.byte.Goals as goal

pub returns : goal.returns
returns c =
    on_ok_weaker c.digit-2.result
    (λ e. e ∙ and_two c.args.self.now c.text.new.self c.digit.new.self (codes "\\x") (digit_char (c.args.byte / 16)) (digit_char (c.args.byte % 16)) (search rules) (search rules))
    c.digit-2.ensures
