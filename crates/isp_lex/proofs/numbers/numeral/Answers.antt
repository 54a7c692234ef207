use Rattle.std.proofs.Common.{◌∙◌}
use Rattle.isp_lex.proofs.Numerals.{numeral_gives}
use Rattle.isp_lex.proofs.numbers.numeral.Goals as goal

pub returns : goal.returns
returns c =
    c.ok.ensures.value ∙ numeral_gives c.args.radix c.args.digits.now _ c.requires.plain c.from_str_radix.ensures.value
