use Rattle.std.proofs.Common.{rules, sym, ap, ◌∙◌, ℕ, ◌*◌, get_or, List, Some}
use Rattle.isp_base.specs.Cross.{or_zero, instance, of_two, shuffle_two}
use Rattle.isp_base.specs.declared.types.Elem.TheVariants.{I32}
use Rattle.isp_base.specs.Values.{number}
use Rattle.isp_cross.specs.Lanes.{active}
use Rattle.isp_cross.proofs.Places.{of_two_same}
use Rattle.isp_cross.proofs.Written.{written_is, on_at}
use Rattle.isp_cross.proofs.moves.shuffle_two.Goals as goal

pub returns-clause-lanes : goal.returns-clause-lanes
returns-clause-lanes g c =
    let mask = c.args.mask.now in
    let x = active mask c.args.x.now in
    let y = active mask c.args.y.now in
    let index = c.args.index.now in
    let n = g.row.N in
    written_is mask c.picked_of_two-lanes.result c.args.out.now (shuffle_two n x y (active mask index)) n c.put.ensures c.told.ensures.long (search rules) c.told-2.ensures.long (λ p h on.
    c.picked_of_two-lanes.ensures p h
    ∙ of_two_same n (λ q. Some (get_or c.active-first.result q 0)) x (λ q. Some (get_or c.active-second.result q 0)) y
    (λ q. c.active-first.ensures.value q) (λ q. c.active-second.ensures.value q) (instance (2 * n) (number I32 (get_or c.bits.result p 0)))
    ∙ ap (λ (b : ℕ). of_two n x y (instance (2 * n) (number I32 b))) (ap (λ (xs : List ℕ). get_or xs p 0) c.bits.ensures.value ∙ ap or_zero (sym (on_at mask index.bits p on))))
