use Rattle.std.proofs.Common.{◌≡◌, sym, ◌∙◌, subst, List, Bool, length, Some}
use Rattle.isp_base.specs.Maps.{lane_of, on, over}
use Rattle.isp_base.specs.Rows.{Row}
use Rattle.isp_base.specs.Sets.{flag_of}
use Rattle.isp_lanes.specs.Lanes.{written}
use Rattle.isp_frames.specs.Arrays.{vector_in}
use Rattle.isp_machine.specs.Receives.{Receives}
use Rattle.isp_frames.proofs.LaneViews.{copied}
use Rattle.isp_machine.proofs.Returned.{receives_lanes}
use Rattle.isp_machine.proofs.returns.receive_lanes.Goals as goal

pub returns : goal.returns
returns g c = λ k shaped there elem to.
    let n = g.row.N in
    let f = c.args.caller.now in
    let old = vector_in f c.args.d.number in
    let xs = c.vector-value.result.now.bits in
    let few = subst (λ (bs : List Bool). length bs ≡ n) c.under.ensures c.told.ensures.long in
    let long = subst (λ (r : Row). length r.bits ≡ n) c.vector.ensures c.told-2.ensures.long in
    subst (Receives k c.args.callee.now (Some c.args.x) f) (sym c.receive.ensures)
    (receives_lanes k c.args.callee.now f shaped c.args.x c.args.d to there (written f.under xs old) (c.requires.takes.elem_is ∙ sym elem)
    (copied n f.under xs old.bits few c.told-3.ensures.long long ∙ (λ i. over (on (flag_of f.under) (c.vector-value.ensures.lanes i)) (lane_of old.bits))))
