use Rattle.isp_registers.proofs.Lemmas.{both_given, gives_none}
use Rattle.isp_masks_reserve.proofs.ranges_reserved.bound.Goals as goal

pub returns : goal.returns
returns c = both_given _ _ _ _ _ c.in_ok-spare.ensures (both_given _ _ _ _ _ (gives_none _) (both_given _ _ _ _ _ (rw c.ty.ensures at c.in_ok-spare-2.ensures) c.in_ok-expr.ensures))
