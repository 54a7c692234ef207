use Rattle.std.proofs.Common.{◌∙◌, arith}
use Rattle.isp_cross.proofs.Places.{down_is, up_is}
use Rattle.isp_cross.proofs.moves.shifted.Goals as goal
use Rattle.isp_cross.proofs.moves.shifted.Goals.{then-down, else-down, then-k, else-k}

pub returns-after-down : goal.returns-after-down
returns-after-down g c p h =
    let shifted = down_is g.row.N c.args.x c.args.k c.if-down.lanes_below p h c.requires.k (omega (arith, c.if-k-gt2147483647.true)) in
    c.lanes_below.ensures p h
    ∙ elim c.if-down.branch [
      | then-down w ↦ shifted (λ _. w.lanes_below-is) (λ l. absurd (omega (arith, l, w.if-down)))
      | else-down w ↦ shifted (λ l. absurd (omega (arith, l, w.if-down))) (λ _. w.lanes_below-is)
    ]

pub returns-after-k : goal.returns-after-k
returns-after-k g c p h =
    let shifted = up_is g.row.N c.args.x c.args.k c.if-k.lanes_above p h (omega (arith, c.if-k-gt2147483647.false)) in
    c.lanes_above.ensures p h
    ∙ elim c.if-k.branch [
      | then-k w ↦ shifted (λ _. w.lanes_above-is) (λ l. absurd (omega (arith, l, w.if-k)))
      | else-k w ↦ shifted (λ l. absurd (omega (arith, l, w.if-k))) (λ _. w.lanes_above-is)
    ]
