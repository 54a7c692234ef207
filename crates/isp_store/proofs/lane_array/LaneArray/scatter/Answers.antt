use Rattle.std.proofs.Common.{◌≡◌, ℕ, ◌<◌, ◌^◌, length, sym, ap, ◌∙◌, subst, arith}
use Rattle.isp_base.specs.Access.{element}
use Rattle.isp_base.specs.Maps.{Lanes, lane_of, map1, on}
use Rattle.isp_base.specs.Rows.{Fit}
use Rattle.isp_base.specs.Sets.{flag_of}
use Rattle.isp_base.specs.Values.{width}
use Rattle.isp_base.specs.declared.types.Elem.{Elem}
use Rattle.isp_base.specs.declared.types.Elem.TheVariants.{I64}
use Rattle.isp_cells.specs.Cells.{found, row_word, row_with}
use Rattle.isp_store.specs.LaneRows.{lists, rows_width, AreRows}
use Rattle.isp_base.specs.Stores.{own_put}
use Rattle.isp_store.specs.Own.{Own, own, size}
use Rattle.isp_lanes.proofs.Gathered.{either}
use Rattle.isp_cells.proofs.Found.{both_ok, length_stored}
use Rattle.isp_cells.proofs.Indices.{all_inside, on_there, past_end}
use Rattle.isp_store.proofs.Own.{own_rows, rows_long, are_stored, all_stored}
use Rattle.isp_store.proofs.lane_array.LaneArray.scatter.Goals as goal

pub invariant_of-self : goal.invariant_of-self
invariant_of-self g c =
    let a = c.args in
    let n = g.row.N in
    let t = c.self.inside.elem in
    let w = rows_width c.self.inside.rows in
    let xss = lists c.self.inside.rows in
    let m = flag_of a.mask.now in
    let x = lane_of a.index.now.bits in
    let y = lane_of a.value.now.bits in
    let fits : (p : ℕ) → y p < 2 ^ width t =
    subst (λ (e : Elem). Fit e a.value.now.bits) (c.requires.elem ∙ sym (ap (λ (s : Own). s.elem) c.self.view_is)) c.told-3.ensures.fits in
    subst (λ (k : ℕ). AreRows n k t (lists c.store.new.self)) (sym c.store.ensures.wide)
    (either c.store.result c.store.ensures.lists c.store.ensures.same (λ e. subst (AreRows n w t) (sym e) (are_stored m x y n w t n xss fits c.self.invariant)) (λ e. subst (AreRows n w t) (sym e) c.self.invariant))

pub returns-clause-size : goal.returns-clause-size
returns-clause-size g c =
    let a = c.args in
    let t = c.self.inside.elem in
    let xss = lists c.self.inside.rows in
    let now = lists c.store.new.self in
    let same : length now ≡ length xss =
    either c.store.result c.store.ensures.lists c.store.ensures.same (λ e. ap length e ∙ length_stored row_with (flag_of a.mask.now) (lane_of a.index.now.bits) g.row.N (lane_of a.value.now.bits) xss) (λ e. ap length e) in
    rows_long t now ∙ same ∙ sym (rows_long t xss) ∙ ap size c.self.view_is

pub returns-clause-elements : goal.returns-clause-elements
returns-clause-elements g c =
    let a = c.args in
    let n = g.row.N in
    let t = c.self.inside.elem in
    let xss = lists c.self.inside.rows in
    let m = flag_of a.mask.now in
    let x = lane_of a.index.now.bits in
    let y = lane_of a.value.now.bits in
    let places = map1 (element I64) (on m x) in
    let fits = subst (λ (e : Elem). Fit e a.index.now.bits) c.requires.index c.told.ensures.fits in
    both_ok c.store.result c.store.ensures.lists c.store.ensures.inside
    (λ e none.
    own_rows t (lists c.store.new.self) ∙ ap (found row_word) e
    ∙ all_stored m x y (element I64) n xss (all_inside n (length xss) a.mask.now a.index.now.bits c.told-2.ensures.long fits none) (λ p is. on_there a.mask.now n p c.told-2.ensures.long is) c.self.invariant.long
    (λ p h. past_end a.mask.now p (omega (arith, h, c.told-2.ensures.long)))
    ∙ ap (λ (f : ℕ → Lanes). own_put places y f) (sym (own_rows t xss) ∙ ap own c.self.view_is))
