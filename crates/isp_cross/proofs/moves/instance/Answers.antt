use Rattle.std.proofs.Common.{arith}
use Rattle.isp_cross.proofs.Places.{int32_lane}
use Rattle.isp_cross.proofs.moves.instance.Goals as goal
use Rattle.isp_cross.proofs.moves.instance.Goals.{then-bits-gt2147483647, else-bits-gt2147483647}

pub returns-clause-value : goal.returns-clause-value
returns-clause-value c =
    let lane = int32_lane c.args.count c.args.bits c.if-bits-gt2147483647.above c.requires.some c.requires.fits in
    elim c.if-bits-gt2147483647.branch [
      | then-bits-gt2147483647 w ↦ lane (λ _. w.above-is) (λ l. absurd (omega (arith, l, w.if-bits-gt2147483647)))
      | else-bits-gt2147483647 w ↦ lane (λ l. absurd (omega (arith, l, w.if-bits-gt2147483647))) (λ _. w.above-is)
    ]
