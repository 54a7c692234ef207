use Rattle.std.proofs.Common.{◌<◌, ◌^◌, sym, ap, ◌∙◌, length, subst, rules}
use Rattle.isp_base.specs.declared.types.Elem.{Elem}
use Rattle.isp_base.specs.Values.{width}
use Rattle.isp_base.specs.Rows.{Row}
use Rattle.isp_base.specs.Maps.{lane_of}
use Rattle.isp_store.proofs.RowLists.{row_bits_at, type_of_at, row_there}
use Rattle.isp_store.proofs.rows.load.Goals as goal

pub offset_bounds-rows-array : goal.offset_bounds-rows-array
offset_bounds-rows-array c = let h = row_there c.args.rows.now c.args.array c.args.place c.requires in search rules

pub bounds-rows-array : goal.bounds-rows-array
bounds-rows-array c = row_there c.args.rows.now c.args.array c.args.place c.requires

pub at-requires : goal.at-requires
at-requires c =
    let a = c.args in
    let there = row_there a.rows.now a.array a.place c.requires in
    let at = c.index-rows-array in
    subst (λ xs. a.place < length xs) (row_bits_at a.rows.now a.array at.result there ∙ ap (λ (r : Row). r.bits) (sym at.is)) c.requires

pub returns-clause-value : goal.returns-clause-value
returns-clause-value c =
    let a = c.args in
    let there = row_there a.rows.now a.array a.place c.requires in
    let at = c.index-rows-array in
    c.at.ensures.value ∙ ap (λ (r : Row). lane_of r.bits a.place) at.is ∙ sym (ap (λ xs. lane_of xs a.place) (row_bits_at a.rows.now a.array at.result there))

pub returns-clause-fits : goal.returns-clause-fits
returns-clause-fits c =
    let a = c.args in
    let there = row_there a.rows.now a.array a.place c.requires in
    let at = c.index-rows-array in
    subst (λ (t : Elem). c.at.result < 2 ^ width t) (ap (λ (r : Row). r.elem) at.is ∙ sym (type_of_at a.rows.now a.array at.result there)) c.at.ensures.fits
