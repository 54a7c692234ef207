use Rattle.std.proofs.Common.{List, ℕ, ◌<◌, sym, ap, ◌∙◌, subst, length, rules}
use Rattle.isp_base.specs.Access.{scatter}
use Rattle.isp_base.specs.Maps.{Lanes, lane_of, on, put}
use Rattle.isp_base.specs.Sets.{flag_of}
use Rattle.isp_store.specs.Held.{bits_of}
use Rattle.isp_store.proofs.RowLists.{row_bits_at, type_of_at, rows_put, row_shapes}
use Rattle.isp_store.proofs.rows.put_lanes.Goals as goal

pub put-requires : goal.put-requires
put-requires g c =
    let a = c.args in
    let elem = c.requires.elem ∙ type_of_at a.rows.now a.array _ c.requires.there in
    (search rules, (search rules, (search rules, (elem, λ p is. subst (λ (xs : List ℕ). lane_of a.places.now p < length xs) (row_bits_at a.rows.now a.array _ c.requires.there) (c.requires.inside p is)))))

pub returns-clause-elements : goal.returns-clause-elements
returns-clause-elements g c =
    let a = c.args in
    rows_put a.rows.now a.array c.put.new.array c.requires.there
    ∙ ap (λ (f : Lanes). put (bits_of a.rows.now) a.array f)
    (c.put.ensures.elements ∙ ap (λ xs. scatter g.row.N (on (flag_of a.mask.now) (lane_of a.places.now)) (on (flag_of a.mask.now) (lane_of a.value.now.bits)) (lane_of xs)) (sym (row_bits_at a.rows.now a.array _ c.requires.there)))

pub returns-clause-shapes : goal.returns-clause-shapes
returns-clause-shapes g c = row_shapes c.args.rows.now c.args.array _ c.put.new.array c.requires.there c.put.ensures.elem c.put.ensures.size
