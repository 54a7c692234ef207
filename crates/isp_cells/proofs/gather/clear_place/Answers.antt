use Rattle.std.proofs.Common.{◌≡◌, ℕ, sym, ap, ◌∙◌, subst, length, Some, true, false, ◌<◌}
use Rattle.std.proofs.lemmas.Option.{get_or_from_slice_get}
use Rattle.isp_base.specs.Maps.{Lanes}
use Rattle.isp_base.specs.Sets.{flag_of}
use Rattle.isp_cells.specs.Cells.{left}
use Rattle.isp_cells.proofs.Found.{length_stored, left_set, stored_on, stored_off}
use Rattle.isp_cells.proofs.gather.clear_place.Goals as goal
use Rattle.isp_cells.proofs.gather.clear_place.Goals.{then-get, else-get}

pub loop-lane-preserved : goal.loop-lane-preserved
loop-lane-preserved g c =
    let a = c.args in
    let l = c.loop-lane in
    let m = flag_of a.mask.now in
    let x : Lanes = λ p. a.place in
    let y : Lanes = λ p. 0 in
    let with = g.C.Cell.with in
    elim c.if-get.branch [
      | then-get w ↦
          let is = get_or_from_slice_get a.mask.now l.lane true false (c.get.ensures ∙ ap Some w.if-get.true) in
          let size : length l.cells ≡ length a.cells.now = ap length l.invariant ∙ length_stored with m x l.lane y a.cells.now in
          let here : a.place < length l.cells = subst (λ (n : ℕ). a.place < n) (sym size) c.requires in
          w.cells-is ∙ left_set with l.cells a.place l.lane 0 w.index-cells-place.result w.set.new.self here w.set.ensures ∙ ap (left with true a.place l.lane 0) l.invariant ∙ sym (stored_on with m x l.lane y a.cells.now is)
      | else-get w ↦
          let off = get_or_from_slice_get a.mask.now l.lane false false (c.get.ensures ∙ ap Some w.if-get.false) in
          w.cells-is ∙ l.invariant ∙ sym (stored_off with m x l.lane y a.cells.now off)
    ]
