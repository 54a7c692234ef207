use Rattle.std.proofs.Common.{◌≡◌, ℕ, List, sym, ap, ◌∙◌, subst, length, Some, None, rules}
use Rattle.std.specs.Prelude.{IfOk, IfErr}
use Rattle.isp_base.specs.Access.{element, is_outside}
use Rattle.isp_base.specs.Maps.{lane_of, map1, on, over, lowest_failing}
use Rattle.isp_base.specs.Rows.{Row}
use Rattle.isp_base.specs.Sets.{flag_of}
use Rattle.isp_base.specs.declared.types.Elem.TheVariants.{I64}
use Rattle.isp_store.proofs.RowLists.{row_bits_at, type_of_at}
use Rattle.isp_store.proofs.rows.gather.Goals as goal

pub gather-requires : goal.gather-requires
gather-requires g c =
    let a = c.args in
    let row = c.index-rows-array in
    (search rules, (search rules, (search rules, c.requires.elem ∙ type_of_at a.rows.now a.array row.result c.requires.there ∙ ap (λ (r : Row). r.elem) (sym row.is))))

pub returns-clause-inside : goal.returns-clause-inside
returns-clause-inside g c =
    let a = c.args in
    let row = c.index-rows-array in
    let bits = row_bits_at a.rows.now a.array row.result c.requires.there ∙ ap (λ (r : Row). r.bits) (sym row.is) in
    subst (λ (xs : List ℕ). IfOk c.gather.result (λ _. lowest_failing g.row.N (is_outside I64 (length xs)) (on (flag_of a.mask.now) (lane_of a.places.now)) ≡ None)) (sym bits) c.gather.ensures.inside

pub returns-clause-lanes : goal.returns-clause-lanes
returns-clause-lanes g c =
    let a = c.args in
    let row = c.index-rows-array in
    let bits = row_bits_at a.rows.now a.array row.result c.requires.there ∙ ap (λ (r : Row). r.bits) (sym row.is) in
    subst (λ (xs : List ℕ). IfOk c.gather.result (λ _. lane_of c.gather.new.into.bits ≡ over (map1 (λ (x : ℕ). lane_of xs (element I64 x)) (on (flag_of a.mask.now) (lane_of a.places.now))) (lane_of a.into.now.bits))) (sym bits) c.gather.ensures.lanes

pub returns-clause-lowest : goal.returns-clause-lowest
returns-clause-lowest g c =
    let a = c.args in
    let row = c.index-rows-array in
    let bits = row_bits_at a.rows.now a.array row.result c.requires.there ∙ ap (λ (r : Row). r.bits) (sym row.is) in
    subst (λ (xs : List ℕ). IfErr c.gather.result (λ trap. lowest_failing g.row.N (is_outside I64 (length xs)) (on (flag_of a.mask.now) (lane_of a.places.now)) ≡ Some trap.instance)) (sym bits) c.gather.ensures.lowest
