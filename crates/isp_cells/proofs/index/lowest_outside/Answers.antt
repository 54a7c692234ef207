use Rattle.std.proofs.Common.{sym, ap, ◌∙◌, Some, true, false}
use Rattle.std.proofs.lemmas.Option.{get_or_from_slice_get}
use Rattle.isp_base.specs.Access.{is_outside}
use Rattle.isp_base.specs.Maps.{lane_of}
use Rattle.isp_base.specs.Sets.{flag_of}
use Rattle.isp_base.specs.declared.types.Elem.TheVariants.{I64}
use Rattle.isp_lanes.proofs.Failing.{found, past_fine, past_off}
use Rattle.isp_cells.proofs.index.lowest_outside.Goals as goal
use Rattle.isp_cells.proofs.index.lowest_outside.Goals.{else-get-via-then-get+else-lies_outside, else-get-via-else-get}

pub returns-then-lies_outside : goal.returns-then-lies_outside
returns-then-lies_outside g c =
    let a = c.args in
    let l = c.loop-lane in
    let is = get_or_from_slice_get a.mask.now l.lane true false (c.get.ensures ∙ ap Some c.if-get.true) in
    sym (found (is_outside I64 a.count) (flag_of a.mask.now) (lane_of a.places.now) g.row.N l.lane c.loop-lane-test.true l.invariant is (sym c.lies_outside.ensures ∙ c.if-lies_outside.true))

pub loop-lane-preserved : goal.loop-lane-preserved
loop-lane-preserved g c =
    let a = c.args in
    let l = c.loop-lane in
    let fails = is_outside I64 a.count in
    elim c.else-get.branch [
      | else-get-via-then-get+else-lies_outside w ↦
          let is = get_or_from_slice_get a.mask.now l.lane true false (c.get.ensures ∙ ap Some w.if-get.true) in
          past_fine fails (flag_of a.mask.now) (lane_of a.places.now) l.lane l.invariant is (sym w.lies_outside.ensures ∙ w.if-lies_outside.false)
      | else-get-via-else-get w ↦
          let off = get_or_from_slice_get a.mask.now l.lane false false (c.get.ensures ∙ ap Some w.if-get.false) in
          past_off fails (flag_of a.mask.now) (lane_of a.places.now) l.lane l.invariant off
    ]
