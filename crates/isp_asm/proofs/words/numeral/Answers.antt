use Rattle.std.proofs.Common.{rules}
use Rattle.isp_asm.proofs.Numerals.{numeral_spelled}
use Rattle.isp_asm.proofs.words.numeral.Goals as goal

pub returns-in-Some-clause-spelled : goal.returns-in-Some-clause-spelled
returns-in-Some-clause-spelled c =
    numeral_spelled c.args.word.now c.in-Some.number (search rules) (search rules) (search rules) (search rules)
