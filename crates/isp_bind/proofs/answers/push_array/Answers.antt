use Rattle.std.proofs.Common.{nat_lt, arith, rules}
use Rattle.isp_bind.proofs.Texts.{array_closed}
use Rattle.isp_bind.proofs.answers.push_array.Goals as goal

pub returns : goal.returns
returns c =
    array_closed c.args.array.now.elem c.args.array.now.bits c.loop-place.place (nat_lt 0 c.loop-place.place) _ _ _ _ (grind arith) (search rules) c.loop-place.invariant (search rules)
