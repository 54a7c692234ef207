use Rattle.std.proofs.Common.{◌∙◌, sym, arith}
use Rattle.isp_known.proofs.Words.{start_is}
use Rattle.isp_known.proofs.word.start_of.Goals as goal

pub returns-else-is_word_byte-clause-is : goal.returns-else-is_word_byte-clause-is
returns-else-is_word_byte-clause-is c =
    let k = c.loop-start in
    start_is c.args.text.now c.args.at k.start c.requires k.invariant.0 k.invariant.1 (λ _. sym c.is_word_byte.ensures ∙ c.if-is_word_byte.false)

pub returns-after-loop-start-clause-is : goal.returns-after-loop-start-clause-is
returns-after-loop-start-clause-is c =
    let k = c.loop-start in
    start_is c.args.text.now c.args.at k.start c.requires k.invariant.0 k.invariant.1 (λ h. absurd (omega (arith, h, c.loop-start-test.false)))
