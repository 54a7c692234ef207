use Rattle.std.proofs.Common.{rules, refl, ap, ◌∙◌, List, ℕ}
use Rattle.isp_lanes.specs.Lanes.{written}
use Rattle.isp_lanes.proofs.ListedRows.{row_as, words_whole}
use Rattle.isp_lanes.proofs.lanes.Lanes.cut.Goals as goal

pub blend-requires : goal.blend-requires
blend-requires g c =
    let t = c.args.self.now.elem in
    let w = g.V.Words.width in
    let whole = words_whole w t c.requires.wide c.args.bits.now c.requires.fits in
    (search rules, (search rules, row_as g.row.N w refl (c.cut-new.ensures ∙ whole) c.requires.wide (search rules) c.requires.fits))

pub returns : goal.returns
returns g c =
    let t = c.args.self.now.elem in
    let w = g.V.Words.width in
    let whole = words_whole w t c.requires.wide c.args.bits.now c.requires.fits in
    c.blend.ensures ∙ ap (λ (us : List ℕ). written c.args.mask.now us c.args.self.now) (c.cut-new.ensures ∙ whole)
