use Rattle.std.proofs.Common.{◌≡◌, ℕ, List, sym, ap, ◌∙◌, subst, rules}
use Rattle.isp_base.specs.Maps.{lane_of, map1, on, over}
use Rattle.isp_base.specs.Rows.{Row}
use Rattle.isp_base.specs.Sets.{flag_of}
use Rattle.isp_store.proofs.RowLists.{row_bits_at, type_of_at}
use Rattle.isp_store.proofs.rows.load_lanes.Goals as goal

pub load-requires : goal.load-requires
load-requires g c =
    let a = c.args in
    let row = c.index-rows-array in
    (search rules, (search rules, (search rules, c.requires.elem ∙ type_of_at a.rows.now a.array row.result c.requires.there ∙ ap (λ (r : Row). r.elem) (sym row.is))))

pub returns-clause-lanes : goal.returns-clause-lanes
returns-clause-lanes g c =
    let a = c.args in
    let row = c.index-rows-array in
    let bits = row_bits_at a.rows.now a.array row.result c.requires.there ∙ ap (λ (r : Row). r.bits) (sym row.is) in
    subst (λ (xs : List ℕ). lane_of c.load.new.into.bits ≡ over (map1 (lane_of xs) (on (flag_of a.mask.now) (lane_of a.places.now))) (lane_of a.into.now.bits)) (sym bits) c.load.ensures.lanes
