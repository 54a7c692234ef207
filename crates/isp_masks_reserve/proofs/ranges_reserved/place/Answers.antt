use Rattle.isp_base.specs.declared.types.Elem.TheVariants.{I32}
use Rattle.isp_base.specs.declared.types.Rate.TheVariants.{Varying}
use Rattle.isp_registers.proofs.Lemmas.{both_given}
use Rattle.isp_masks_reserve.proofs.Reserving.{variable_reserved}
use Rattle.isp_masks_reserve.proofs.ranges_reserved.place.Goals as goal

pub returns-clause-gives : goal.returns-clause-gives
returns-clause-gives c =
    let second = c.next-second.ensures.number in
    both_given _ _ _ _ _ (variable_reserved c.args.r.now Varying c.args.x.now.index I32)
    (both_given _ _ _ _ _ c.in_ok-spare.ensures
    (both_given _ _ _ _ _ (rw second at c.next-second.ensures.gives)
    (both_given _ _ _ _ _ (rw second at c.in_ok-spare-2.ensures)
    (both_given _ _ _ _ _ (rw second at c.in_ok-spare-3.ensures)
    (both_given _ _ _ _ _ (rw second at c.in_ok-spare-4.ensures)
    (both_given _ _ _ _ _ (rw second at c.in_ok-spare-5.ensures) c.in_ok-place.ensures))))))
