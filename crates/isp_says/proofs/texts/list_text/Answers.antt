use Rattle.std.proofs.Common.{ap, ◌∙◌, ◌++◌}
use Rattle.isp_base.specs.Maps.{lane_of, on}
use Rattle.isp_base.specs.Prints.{item_text}
use Rattle.isp_base.specs.Sets.{flag_of}
use Rattle.isp_base.specs.declared.types.Elem.{Elem}
use Rattle.isp_says.proofs.Items.{item_added}
use Rattle.isp_says.proofs.texts.list_text.Goals as goal

pub loop-lane-preserved : goal.loop-lane-preserved
loop-lane-preserved g c =
    item_added c.args.lanes.now.elem c.loop-lane.lane (on (flag_of c.args.mask.now) (lane_of c.args.lanes.now.bits)) c.value_on.result c.loop-lane.text.items c.push_comma.new.out.items
    c.push_item.new.out.items
    c.loop-lane.invariant c.in_ok-push_comma.ensures (c.in_ok-push_item.ensures ∙ ap (λ (t : Elem). c.push_comma.new.out.items ++ item_text t c.value_on.result) c.elem.ensures) c.value_on.ensures
