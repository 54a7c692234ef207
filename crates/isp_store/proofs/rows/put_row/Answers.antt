use Rattle.std.proofs.Common.{◌≤◌, ◌+◌, ℕ, List, length, sym, ap, ◌∙◌, subst, rules}
use Rattle.std.specs.Simd.Lanes.{put_chunk}
use Rattle.std.proofs.lemmas.Simd.{length-put_chunk}
use Rattle.isp_base.specs.Maps.{Lanes, lane_of, put}
use Rattle.isp_base.specs.Rows.{Row}
use Rattle.isp_store.specs.Held.{bits_of}
use Rattle.isp_store.proofs.RowLists.{row_bits_at, type_of_at, rows_put, row_shapes}
use Rattle.isp_store.proofs.rows.put_row.Goals as goal

pub put_row-requires : goal.put_row-requires
put_row-requires g c =
    let a = c.args in
    (search rules, (c.requires.elem ∙ type_of_at a.rows.now a.array _ c.requires.there, subst (λ (xs : List ℕ). a.start + g.row.N ≤ length xs) (row_bits_at a.rows.now a.array _ c.requires.there) c.requires.inside))

pub returns-clause-elements : goal.returns-clause-elements
returns-clause-elements g c =
    let a = c.args in
    rows_put a.rows.now a.array c.put_row.new.array c.requires.there
    ∙ ap (λ (f : Lanes). put (bits_of a.rows.now) a.array f)
    (ap (λ (r : Row). lane_of r.bits) c.put_row.ensures ∙ ap (λ (xs : List ℕ). lane_of (put_chunk a.start xs a.value.now.bits)) (sym (row_bits_at a.rows.now a.array _ c.requires.there)))

pub returns-clause-shapes : goal.returns-clause-shapes
returns-clause-shapes g c =
    let a = c.args in
    row_shapes a.rows.now a.array _ c.put_row.new.array c.requires.there (ap (λ (r : Row). r.elem) c.put_row.ensures) (ap (λ (r : Row). length r.bits) c.put_row.ensures ∙ length-put_chunk a.start _ a.value.now.bits)
