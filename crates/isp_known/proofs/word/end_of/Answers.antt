use Rattle.std.proofs.Common.{◌∙◌, sym, arith}
use Rattle.isp_known.proofs.Words.{end_is}
use Rattle.isp_known.proofs.word.end_of.Goals as goal

pub returns-else-is_word_byte-clause-is : goal.returns-else-is_word_byte-clause-is
returns-else-is_word_byte-clause-is c =
    let k = c.loop-end in
    end_is c.args.text.now c.args.at k.end k.invariant.0 k.invariant.1 k.invariant.2 (λ _. sym c.is_word_byte.ensures ∙ c.if-is_word_byte.false)

pub returns-after-loop-end-clause-is : goal.returns-after-loop-end-clause-is
returns-after-loop-end-clause-is c =
    let k = c.loop-end in
    end_is c.args.text.now c.args.at k.end k.invariant.0 k.invariant.1 k.invariant.2 (λ h. absurd (omega (arith, h, c.loop-end-test.false)))
