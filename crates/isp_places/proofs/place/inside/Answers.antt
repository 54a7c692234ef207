use Rattle.std.proofs.Common.{sym, arith, rules}
use Rattle.std.proofs.lemmas.List.Sums.{position_or_len_is}
use Rattle.isp_places.specs.Lines.{ends_line}
use Rattle.isp_places.proofs.place.inside.Goals as goal

pub returns-else-not-ends_line-clause-count : goal.returns-else-not-ends_line-clause-count
returns-else-not-ends_line-clause-count c =
    sym (position_or_len_is ends_line _ _ 0 c.loop-count.invariant.0 c.loop-count.invariant.1 (λ _. search rules))

pub returns-after-loop-count-clause-count : goal.returns-after-loop-count-clause-count
returns-after-loop-count-clause-count c =
    sym (position_or_len_is ends_line _ _ 0 c.loop-count.invariant.0 c.loop-count.invariant.1 (λ h. absurd (omega (arith, h, c.loop-count-test.false))))
