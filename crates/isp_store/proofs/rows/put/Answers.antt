use Rattle.std.proofs.Common.{◌<◌, ◌^◌, length, subst, rules}
use Rattle.isp_base.specs.declared.types.Elem.{Elem}
use Rattle.isp_base.specs.Values.{width}
use Rattle.isp_store.proofs.RowLists.{row_bits_at, type_of_at, row_there, element_put, element_shapes}
use Rattle.isp_store.proofs.rows.put.Goals as goal

pub offset_bounds-rows-array : goal.offset_bounds-rows-array
offset_bounds-rows-array c = let h = row_there c.args.rows.now c.args.array c.args.place c.requires.there in search rules

pub bounds-rows-array : goal.bounds-rows-array
bounds-rows-array c = row_there c.args.rows.now c.args.array c.args.place c.requires.there

pub put-requires-clause-there : goal.put-requires-clause-there
put-requires-clause-there c =
    let a = c.args in
    subst (λ xs. a.place < length xs) (row_bits_at a.rows.now a.array _ (row_there a.rows.now a.array a.place c.requires.there)) c.requires.there

pub put-requires-clause-fits : goal.put-requires-clause-fits
put-requires-clause-fits c =
    let a = c.args in
    subst (λ (t : Elem). a.bits < 2 ^ width t) (type_of_at a.rows.now a.array _ (row_there a.rows.now a.array a.place c.requires.there)) c.requires.fits

pub returns-clause-elements : goal.returns-clause-elements
returns-clause-elements c =
    let a = c.args in
    element_put a.rows.now a.array a.place a.bits c.index-rows-array.result c.put.new.self c.put.ensures c.requires.there

pub returns-clause-shapes : goal.returns-clause-shapes
returns-clause-shapes c =
    let a = c.args in
    element_shapes a.rows.now a.array a.place a.bits c.index-rows-array.result c.put.new.self c.put.ensures c.requires.there
