use Rattle.std.proofs.Common.{◌≡◌, ◌++◌, codes}
use Rattle.isp_base.specs.Maps.{lane_of, on}
use Rattle.isp_base.specs.Prints.{items_text}
use Rattle.isp_base.specs.Sets.{flag_of}
use Rattle.isp_says.proofs.texts.list_text.Given as goal

abbrev pub invariant-loop-lane : goal.invariant-loop-lane
invariant-loop-lane g l = l.text.items ≡ codes "[" ++ items_text l.lanes.elem l.lane (on (flag_of l.mask) (lane_of l.lanes.bits))
