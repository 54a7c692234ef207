use Rattle.std.proofs.Common.{◌≡◌, List, ℕ, sym, ap, ◌∙◌, subst, length, rules, Some, None}
use Rattle.std.specs.Prelude.{IfOk, IfErr}
use Rattle.isp_base.specs.Access.{element, is_outside, scatter}
use Rattle.isp_base.specs.Maps.{Lanes, lane_of, map1, on, put, lowest_failing}
use Rattle.isp_base.specs.Sets.{flag_of}
use Rattle.isp_base.specs.declared.types.Elem.TheVariants.{I64}
use Rattle.isp_store.specs.Held.{bits_of}
use Rattle.isp_cells.proofs.Found.{both_ok}
use Rattle.isp_store.proofs.RowLists.{row_bits_at, type_of_at, rows_put, row_shapes}
use Rattle.isp_store.proofs.rows.scatter.Goals as goal

pub write-requires : goal.write-requires
write-requires g c =
    let a = c.args in
    let few = c.told.ensures.wide in
    (search rules, (search rules, (c.requires.index, c.requires.elem ∙ type_of_at a.rows.now a.array _ c.requires.there)))

pub returns-clause-inside : goal.returns-clause-inside
returns-clause-inside g c =
    let a = c.args in
    subst (λ (xs : List ℕ). IfOk c.write.result (λ _. lowest_failing g.row.N (is_outside I64 (length xs)) (on (flag_of a.mask.now) (lane_of a.index.now.bits)) ≡ None)) (sym (row_bits_at a.rows.now a.array _ c.requires.there)) c.write.ensures.inside

pub returns-clause-elements : goal.returns-clause-elements
returns-clause-elements g c =
    let a = c.args in
    both_ok c.write.result c.write.ensures.elements c.write.ensures.elements
    (λ e _.
    rows_put a.rows.now a.array c.write.new.array c.requires.there
    ∙ ap (λ (f : Lanes). put (bits_of a.rows.now) a.array f)
    (e ∙ ap (λ xs. scatter g.row.N (map1 (element I64) (on (flag_of a.mask.now) (lane_of a.index.now.bits))) (on (flag_of a.mask.now) (lane_of a.value.now.bits)) (lane_of xs)) (sym (row_bits_at a.rows.now a.array _ c.requires.there))))

pub returns-clause-shapes : goal.returns-clause-shapes
returns-clause-shapes g c = row_shapes c.args.rows.now c.args.array _ c.write.new.array c.requires.there c.write.ensures.elem c.write.ensures.size

pub returns-clause-lowest : goal.returns-clause-lowest
returns-clause-lowest g c =
    let a = c.args in
    subst (λ (xs : List ℕ). IfErr c.write.result (λ trap. lowest_failing g.row.N (is_outside I64 (length xs))
    (on (flag_of a.mask.now) (lane_of a.index.now.bits)) ≡ Some trap.instance)) (sym (row_bits_at a.rows.now a.array _ c.requires.there))
    c.write.ensures.lowest
