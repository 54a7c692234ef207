use Rattle.std.proofs.Common.{sym, ap, ◌∙◌, subst, ◌<◌, ◌^◌, Ok, rules}
use Rattle.isp_base.specs.Cross.{extract}
use Rattle.isp_base.specs.Maps.{on}
use Rattle.isp_base.specs.Values.{number, width}
use Rattle.isp_base.specs.declared.types.Elem.{Elem}
use Rattle.isp_base.specs.declared.types.Elem.TheVariants.{I32}
use Rattle.isp_machine.proofs.Crossed.{some_lane}
use Rattle.isp_machine.proofs.cross.extract.Goals as goal

pub extract-requires : goal.extract-requires
extract-requires g c =
    let a = c.args in
    let small = subst (λ (t : Elem). c.scalar-lane.result < 2 ^ width t) c.requires.operands.1.1.0.1 c.scalar-lane.ensures.fits in
    (search rules, (search rules, (some_lane g.row.N a.here.now.code.gang c.requires.gang, small)))

pub returns-clause-value : goal.returns-clause-value
returns-clause-value g c =
    λ s ws out. sym (ap Ok (c.extract.ensures.value ∙ (λ j. extract (c.requires.gang j) (on (c.mask.ensures j) (c.vector.ensures.lanes j)) (number I32 (c.scalar-lane.ensures.value j)))))

pub returns-clause-fits : goal.returns-clause-fits
returns-clause-fits g c = subst (λ (t : Elem). c.extract.result < 2 ^ width t) (c.vector.ensures.elem ∙ c.requires.operands.1.0.1) c.extract.ensures.fits
