use Rattle.std.proofs.Common.{◌≤◌, ◌+◌, ℕ, List, length, sym, ap, ◌∙◌, subst, rules}
use Rattle.std.specs.Simd.Lanes.{chunk}
use Rattle.isp_base.specs.Rows.{Row}
use Rattle.isp_store.proofs.RowLists.{row_bits_at, type_of_at}
use Rattle.isp_store.proofs.rows.load_row.Goals as goal

pub load_row-requires : goal.load_row-requires
load_row-requires g c =
    let a = c.args in
    let row = c.index-rows-array in
    let bits = row_bits_at a.rows.now a.array row.result c.requires.there ∙ ap (λ (r : Row). r.bits) (sym row.is) in
    (search rules, (c.requires.elem ∙ type_of_at a.rows.now a.array row.result c.requires.there ∙ ap (λ (r : Row). r.elem) (sym row.is), subst (λ (xs : List ℕ). a.start + g.row.N ≤ length xs) bits c.requires.inside))

pub returns : goal.returns
returns g c =
    let a = c.args in
    let row = c.index-rows-array in
    let bits = row_bits_at a.rows.now a.array row.result c.requires.there ∙ ap (λ (r : Row). r.bits) (sym row.is) in
    c.load_row.ensures ∙ sym (ap (λ (xs : List ℕ). record { elem = a.into.now.elem; bits = chunk a.start g.row.N xs }) bits)
