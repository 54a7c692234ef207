use Rattle.std.proofs.Common.{◌≡◌, sym, ap, ◌∙◌, subst, List, ℕ, ◌^◌, ◌<◌}
use Rattle.std.specs.Prelude.{slice_set}
use Rattle.std.proofs.lemmas.List.{get_or_default}
use Rattle.isp_base.specs.Values.{width, convert_bits, number}
use Rattle.isp_base.specs.Rows.{Row, Fit}
use Rattle.isp_base.specs.declared.types.Elem.TheVariants.{Bool as Truth}
use Rattle.isp_lanes.specs.Lanes.{vector, written, no_row}
use Rattle.isp_lanes.proofs.CellWords.{lane_truth}
use Rattle.isp_lanes.proofs.ListedRows.{elem_at}
use Rattle.isp_lanes.proofs.Rows.{map_same}
use Rattle.isp_lanes.proofs.lanes.Lanes.convert_at.Goals as goal

pub returns-in-Bool : goal.returns-in-Bool
returns-in-Bool g c =
    let vs = c.args.vectors.now in
    let old = vector vs c.args.out in
    let from = (vector vs c.args.x).elem in
    let fits = subst (λ (r : Row). Fit r.elem r.bits) (get_or_default vs c.args.x _ no_row c.requires.x) c.told.ensures.fits in
    let is : old.elem ≡ Truth = elem_at vs c.args.out _ _ c.requires.out ∙ sym c.elem.ensures ∙ c.in-Bool.is in
    c.truths.ensures
    ∙ ap (λ (us : List ℕ). slice_set vs c.args.out (written c.args.mask.now us old)) (map_same (λ a. a < 2 ^ width from) _ _ (λ a p. lane_truth from a p ∙ sym (ap (λ v. convert_bits v (number from a)) is)) (vector vs c.args.x).bits fits)
