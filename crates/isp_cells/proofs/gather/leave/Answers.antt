use Rattle.std.proofs.Common.{◌≡◌, ℕ, sym, ap, ◌∙◌, subst, length, true, ◌<◌, get_or, rules}
use Rattle.isp_lanes.proofs.MaskLanes.{bit_is}
use Rattle.isp_base.specs.Maps.{lane_of}
use Rattle.isp_base.specs.Sets.{flag_of}
use Rattle.isp_cells.specs.Cells.{left}
use Rattle.isp_cells.proofs.Found.{length_stored, left_set, stored_on, stored_off}
use Rattle.isp_cells.proofs.gather.leave.Goals as goal
use Rattle.isp_cells.proofs.gather.leave.Goals.{then-get, else-get}

pub bounds-cells-places : goal.bounds-cells-places
bounds-cells-places g c =
    let a = c.args in
    let l = c.loop-lane in
    let is = sym (bit_is a.mask.now c.bits-lanes.result.bits l.lane c.bits-lanes.ensures) ∙ sym c.get.ensures ∙ c.if-get.true in
    let size : length l.cells ≡ length a.cells.now = ap length l.invariant ∙ length_stored g.C.Cell.with (flag_of a.mask.now) (lane_of a.places.now) l.lane (g.R.Cell.find a.row.now) a.cells.now in
    subst (λ (n : ℕ). lane_of a.places.now l.lane < n) (sym size) (c.requires.inside l.lane c.loop-lane-test.true is)

pub offset_bounds-cells-places : goal.offset_bounds-cells-places
offset_bounds-cells-places g c =
    let a = c.args in
    let l = c.loop-lane in
    let is = sym (bit_is a.mask.now c.bits-lanes.result.bits l.lane c.bits-lanes.ensures) ∙ sym c.get.ensures ∙ c.if-get.true in
    let size : length l.cells ≡ length a.cells.now = ap length l.invariant ∙ length_stored g.C.Cell.with (flag_of a.mask.now) (lane_of a.places.now) l.lane (g.R.Cell.find a.row.now) a.cells.now in
    let h : lane_of a.places.now l.lane < length l.cells = subst (λ (n : ℕ). lane_of a.places.now l.lane < n) (sym size) (c.requires.inside l.lane c.loop-lane-test.true is) in
    search rules

pub loop-lane-preserved : goal.loop-lane-preserved
loop-lane-preserved g c =
    let a = c.args in
    let l = c.loop-lane in
    let m = flag_of a.mask.now in
    let x = lane_of a.places.now in
    let y = g.R.Cell.find a.row.now in
    let with = g.C.Cell.with in
    elim c.if-get.branch [
      | then-get w ↦
          let is = sym (bit_is a.mask.now c.bits-lanes.result.bits l.lane c.bits-lanes.ensures) ∙ sym c.get.ensures ∙ w.if-get.true in
          let size : length l.cells ≡ length a.cells.now = ap length l.invariant ∙ length_stored with m x l.lane y a.cells.now in
          let here : x l.lane < length l.cells = subst (λ (n : ℕ). x l.lane < n) (sym size) (c.requires.inside l.lane c.loop-lane-test.true is) in
          w.cells-is ∙ left_set with l.cells (x l.lane) l.lane (y l.lane) w.index-cells-places.result w.set.new.self here (w.set.ensures ∙ ap (with (get_or l.cells (x l.lane) w.index-cells-places.result) l.lane) w.word.ensures.value)
          ∙ ap (left with true (x l.lane) l.lane (y l.lane)) l.invariant ∙ sym (stored_on with m x l.lane y a.cells.now is)
      | else-get w ↦
          let off = sym (bit_is a.mask.now c.bits-lanes.result.bits l.lane c.bits-lanes.ensures) ∙ sym c.get.ensures ∙ w.if-get.false in
          w.cells-is ∙ l.invariant ∙ sym (stored_off with m x l.lane y a.cells.now off)
    ]
