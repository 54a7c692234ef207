use Rattle.std.proofs.Common.{sym, ap, ◌∙◌, subst, ◌<◌, ◌^◌, Ok, rules}
use Rattle.isp_base.specs.Maps.{on}
use Rattle.isp_base.specs.Values.{width}
use Rattle.isp_base.specs.declared.types.Elem.{Elem}
use Rattle.isp_code.specs.Lines.{reduced}
use Rattle.isp_machine.specs.Crossing.{reduced_elem}
use Rattle.isp_machine.proofs.Crossed.{some_lane, reduced_elem_is, any_truth, all_truth}
use Rattle.isp_machine.proofs.cross.reduce.Goals as goal

pub reduced-requires : goal.reduced-requires
reduced-requires g c =
    let a = c.args in
    let h = a.here.now in
    let fine = c.requires.operands in
    let elem = c.vector.ensures.elem in
    (search rules, (search rules, (some_lane g.row.N h.code.gang c.requires.gang, (λ e. elem ∙ any_truth h.code h.routine a.d a.x a.k a.reduction fine e, λ e. elem ∙ all_truth h.code h.routine a.d a.x a.k a.reduction fine e))))

pub returns-clause-value : goal.returns-clause-value
returns-clause-value g c =
    λ s ws out. sym (ap Ok (c.reduced.ensures.value ∙ (λ j. reduced c.args.reduction (c.vector.ensures.elem j) (c.requires.gang j) (on (c.mask.ensures j) (c.vector.ensures.lanes j)))))

pub returns-clause-fits : goal.returns-clause-fits
returns-clause-fits g c =
    let a = c.args in
    subst (λ (t : Elem). c.reduced.result < 2 ^ width t) (ap (reduced_elem a.reduction) c.vector.ensures.elem ∙ reduced_elem_is a.here.now.code a.here.now.routine a.d a.x a.k a.reduction c.requires.operands) c.reduced.ensures.fits
