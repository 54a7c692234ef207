use Rattle.std.proofs.Common.{rules, ap, ◌∙◌, ◌+◌, ◌%◌}
use Rattle.isp_base.specs.Cross.{or_zero, rotate}
use Rattle.isp_base.specs.declared.types.Elem.TheVariants.{I32}
use Rattle.isp_base.specs.Values.{number}
use Rattle.isp_cross.specs.Lanes.{active}
use Rattle.isp_cross.proofs.Places.{turned_is}
use Rattle.isp_cross.proofs.Written.{written_is}
use Rattle.isp_cross.proofs.moves.rotate.Goals as goal

pub returns-clause-lanes : goal.returns-clause-lanes
returns-clause-lanes g c =
    let mask = c.args.mask.now in
    let x = active mask c.args.x.now in
    let n = g.row.N in
    let z = number I32 c.args.k in
    let from = c.instance-from.result in
    written_is mask c.turned-lanes.result c.args.out.now (rotate n x z) n c.put.ensures c.told.ensures.long (search rules) c.told-2.ensures.long (λ p h on.
    c.turned-lanes.ensures p h
    ∙ c.active.ensures.value ((p + from) % n)
    ∙ ap (λ q. or_zero (x q)) (ap (λ q. (p + q) % n) c.instance-from.ensures.value ∙ turned_is n p z c.requires.some))
