use Rattle.std.proofs.Common.{◌≡◌, None}
use Rattle.isp_base.specs.Access.{is_outside}
use Rattle.isp_base.specs.Maps.{lane_of, on, lowest_failing}
use Rattle.isp_base.specs.Sets.{flag_of}
use Rattle.isp_base.specs.declared.types.Elem.TheVariants.{I64}
use Rattle.isp_cells.proofs.index.lowest_outside.Given as goal

abbrev pub invariant-loop-lane : goal.invariant-loop-lane
invariant-loop-lane g l = lowest_failing l.lane (is_outside I64 l.count) (on (flag_of l.mask) (lane_of l.places)) ≡ None
