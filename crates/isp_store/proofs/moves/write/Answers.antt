use Rattle.std.proofs.Common.{ℕ, ◌<◌, ◌^◌, List, length, sym, ap, ◌∙◌, subst}
use Rattle.isp_base.specs.Access.{element, scatter}
use Rattle.isp_base.specs.Held.{held}
use Rattle.isp_base.specs.Maps.{lane_of, map1, on}
use Rattle.isp_base.specs.Rows.{Row, Fit}
use Rattle.isp_base.specs.Sets.{flag_of}
use Rattle.isp_base.specs.Values.{width}
use Rattle.isp_base.specs.declared.types.Elem.{Elem}
use Rattle.isp_base.specs.declared.types.Elem.TheVariants.{I64}
use Rattle.isp_cells.specs.Cells.{word_with}
use Rattle.isp_lanes.proofs.Gathered.{either}
use Rattle.isp_cells.proofs.Found.{both_ok, length_stored, below_inside}
use Rattle.isp_store.proofs.Picked.{stored_fits, stored_words}
use Rattle.isp_store.proofs.moves.write.Goals as goal

pub put_cells-requires-clause-fits : goal.put_cells-requires-clause-fits
put_cells-requires-clause-fits g c =
    let a = c.args in
    let t = a.array.now.elem in
    let cs = held c.take_cells-cells.result in
    let x = lane_of a.index.now.bits in
    let y = lane_of a.value.now.bits in
    let fits : (p : ℕ) → y p < 2 ^ width t = subst (λ (e : Elem). Fit e a.value.now.bits) c.requires.elem c.told-2.ensures.fits in
    let same = c.take_cells-cells.ensures.fits in
    subst (λ (e : Elem). Fit e (held c.store-outcome.new.cells)) (sym (ap (λ (r : Row). r.elem) c.take_cells-cells.ensures.left))
    (either c.store-outcome.result c.store-outcome.ensures.held c.store-outcome.ensures.same
    (λ e. subst (λ (xs : List ℕ). Fit t xs) (sym e) (stored_fits (flag_of a.mask.now) x y t g.row.N cs fits same)) (λ e. subst (λ (xs : List ℕ). Fit t xs) (sym e) same))

pub returns-clause-elements : goal.returns-clause-elements
returns-clause-elements g c =
    let a = c.args in
    let n = g.row.N in
    let m = flag_of a.mask.now in
    let x = lane_of a.index.now.bits in
    let cs = held c.take_cells-cells.result in
    let places = map1 (element I64) (on m x) in
    let fits = subst (λ (t : Elem). Fit t a.index.now.bits) c.requires.index c.told.ensures.fits in
    both_ok c.store-outcome.result c.store-outcome.ensures.held c.store-outcome.ensures.inside
    (λ e none.
    ap (λ (r : Row). lane_of r.bits) c.put_cells.ensures ∙ ap lane_of e
    ∙ stored_words m x (lane_of a.value.now.bits) (element I64) n cs (below_inside (length cs) a.mask.now a.index.now.bits fits n none)
    ∙ ap (λ (xs : List ℕ). scatter n places (on m (lane_of a.value.now.bits)) (lane_of xs)) c.take_cells-cells.ensures.words)

pub returns-clause-size : goal.returns-clause-size
returns-clause-size g c =
    let a = c.args in
    let cs = held c.take_cells-cells.result in
    ap (λ (r : Row). length r.bits) c.put_cells.ensures
    ∙ either c.store-outcome.result c.store-outcome.ensures.held c.store-outcome.ensures.same
    (λ e. ap length e ∙ length_stored word_with (flag_of a.mask.now) (lane_of a.index.now.bits) g.row.N (lane_of a.value.now.bits) cs) (λ e. ap length e)
    ∙ ap length c.take_cells-cells.ensures.words
