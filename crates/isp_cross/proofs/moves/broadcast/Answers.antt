use Rattle.std.proofs.Common.{◌∙◌, replicate}
use Rattle.std.proofs.lemmas.List.{length-replicate, get_or-replicate}
use Rattle.isp_base.specs.Cross.{broadcast}
use Rattle.isp_base.specs.declared.types.Elem.TheVariants.{I32}
use Rattle.isp_base.specs.Values.{number}
use Rattle.isp_cross.specs.Lanes.{active}
use Rattle.isp_cross.proofs.Written.{written_is}
use Rattle.isp_cross.proofs.moves.broadcast.Goals as goal

pub returns-clause-lanes : goal.returns-clause-lanes
returns-clause-lanes g c =
    let mask = c.args.mask.now in
    let x = active mask c.args.x.now in
    let n = g.row.N in
    let value = c.extract.result in
    written_is mask (replicate n value) c.args.out.now (broadcast n x (number I32 c.args.i)) n c.splat.ensures c.told.ensures.long (length-replicate n value) c.told-2.ensures.long
    (λ p h on. get_or-replicate n p value 0 h ∙ c.extract.ensures.value)
