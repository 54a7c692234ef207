use Rattle.std.proofs.Common.{ℕ, ◌<◌, ◌^◌, List, length, sym, ap, ◌∙◌, subst, refl}
use Rattle.isp_base.specs.Access.{scatter}
use Rattle.isp_base.specs.Held.{held}
use Rattle.isp_base.specs.Maps.{Map, lane_of, on}
use Rattle.isp_base.specs.Rows.{Row, Fit}
use Rattle.isp_base.specs.Sets.{flag_of}
use Rattle.isp_base.specs.Values.{width}
use Rattle.isp_base.specs.declared.types.Elem.{Elem}
use Rattle.isp_cells.specs.Cells.{word_with}
use Rattle.isp_cells.proofs.Found.{length_stored}
use Rattle.isp_store.proofs.Picked.{stored_fits, stored_words}
use Rattle.isp_store.proofs.PlacesInOrder.{map1_id}
use Rattle.isp_store.proofs.moves.put.Goals as goal

pub put_cells-requires-clause-fits : goal.put_cells-requires-clause-fits
put_cells-requires-clause-fits g c =
    let a = c.args in
    let t = a.array.now.elem in
    let y = lane_of a.value.now.bits in
    let fits : (p : ℕ) → y p < 2 ^ width t = subst (λ (e : Elem). Fit e a.value.now.bits) c.requires.elem c.told.ensures.fits in
    subst (λ (e : Elem). Fit e (held c.leave_all.new.cells)) (sym (ap (λ (r : Row). r.elem) c.take_cells-cells.ensures.left))
    (subst (λ (xs : List ℕ). Fit t xs) (sym c.leave_all.ensures.held) (stored_fits (flag_of a.mask.now) (lane_of a.places.now) y t g.row.N (held c.take_cells-cells.result) fits c.take_cells-cells.ensures.fits))

pub returns-clause-elements : goal.returns-clause-elements
returns-clause-elements g c =
    let a = c.args in
    let n = g.row.N in
    let m = flag_of a.mask.now in
    let x = lane_of a.places.now in
    let y = lane_of a.value.now.bits in
    let cs = held c.take_cells-cells.result in
    ap (λ (r : Row). lane_of r.bits) c.put_cells.ensures ∙ ap lane_of c.leave_all.ensures.held
    ∙ stored_words m x y (λ e. e) n cs (λ p h is. (subst (λ (xs : List ℕ). x p < length xs) (sym c.take_cells-cells.ensures.words) (c.requires.there p is), refl))
    ∙ ap (λ (places : Map). scatter n places (on m y) (lane_of cs)) (map1_id m x)
    ∙ ap (λ (xs : List ℕ). scatter n (on m x) (on m y) (lane_of xs)) c.take_cells-cells.ensures.words

pub returns-clause-size : goal.returns-clause-size
returns-clause-size g c =
    let a = c.args in
    ap (λ (r : Row). length r.bits) c.put_cells.ensures ∙ ap length c.leave_all.ensures.held
    ∙ length_stored word_with (flag_of a.mask.now) (lane_of a.places.now) g.row.N (lane_of a.value.now.bits) (held c.take_cells-cells.result) ∙ ap length c.take_cells-cells.ensures.words
