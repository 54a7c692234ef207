use Rattle.std.proofs.Common.{Some, sym, ap, ◌∙◌, arith}
use lib.Count.{count_trailing_zeros}
use Rattle.isp_lanes.proofs.MaskLanes.{first_none, first_some, first_lt}
use Rattle.isp_lanes.proofs.mask.LaneMask.position.Goals as goal

pub returns-then-bits-eq0-clause-value : goal.returns-then-bits-eq0-clause-value
returns-then-bits-eq0-clause-value g c = sym (first_none c.args.self.now (sym c.bits-bits.ensures ∙ c.if-bits-eq0.true))

pub returns-else-bits-eq0-clause-value : goal.returns-else-bits-eq0-clause-value
returns-else-bits-eq0-clause-value g c =
    ap (λ n. Some (count_trailing_zeros 64 n)) c.bits-bits.ensures
    ∙ sym (first_some c.args.self.now (omega (arith, c.told.ensures.long, c.told.ensures.wide)) (omega (arith, c.bits-bits.ensures, c.if-bits-eq0.false)))

pub returns-else-bits-eq0-clause-there : goal.returns-else-bits-eq0-clause-there
returns-else-bits-eq0-clause-there g c =
    omega (arith, ap (count_trailing_zeros 64) c.bits-bits.ensures, c.told.ensures.long, first_lt c.args.self.now (omega (arith, c.told.ensures.long, c.told.ensures.wide)) (omega (arith, c.bits-bits.ensures, c.if-bits-eq0.false)))
