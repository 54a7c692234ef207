use Rattle.std.proofs.Common.{refl, sym, ap, ◌∙◌, rules, ◌^◌, map, length, pow_pos}
use Rattle.std.proofs.lemmas.List.{length-map}
use Rattle.isp_base.specs.Cells.{cell_width}
use Rattle.isp_base.specs.Values.{width}
use Rattle.isp_lanes.specs.Lanes.{is_on}
use Rattle.isp_lanes.proofs.Divisors.{length_sel, sel_fits}
use Rattle.isp_lanes.proofs.ListedRows.{elem_at, row_as}
use Rattle.isp_lanes.proofs.Fits.{fits_as}
use Rattle.isp_lanes.proofs.beside.select.Goals as goal

pub blend-requires : goal.blend-requires
blend-requires g c =
    let n = g.row.N in
    let x = c.args.x in
    let y = c.args.y in
    let vs = c.args.vectors.now in
    let ts = map is_on c.bytes-test.result in
    let xs = g.V.Words.words c.words_as-x.result in
    let ys = g.V.Words.words c.words_as-y.result in
    let fit_x = fits_as (elem_at vs c.args.out _ _ c.requires.x.first ∙ sym c.requires.x.elem ∙ elem_at vs x _ _ c.requires.x.second) (λ _. xs) c.words_as-x.ensures.row.fits in
    let fit_y = fits_as (elem_at vs c.args.out _ _ c.requires.x.first ∙ sym c.requires.y.elem ∙ elem_at vs y _ _ c.requires.y.second) (λ _. ys) c.words_as-y.ensures.row.fits in
    let tests = length-map c.bytes-test.result _ ∙ ap length c.bytes-test.ensures ∙ c.row.ensures.row.long in (
      search rules,
      (
        search rules,
        row_as n g.V.Words.width refl c.over-new.ensures (c.requires.wide ∙ ap cell_width (elem_at vs c.args.out _ _ c.requires.x.first)) (length_sel n ts xs ys tests c.words_as-x.ensures.row.long c.words_as-y.ensures.row.long)
            (sel_fits (2 ^ width _) (pow_pos (width _)) ts xs ys fit_x fit_y),
      ),
    )
