use Rattle.std.proofs.Common.{◌≡◌, take, map}
use Rattle.isp_tree.specs.Views.{range_of as read_range}
use Rattle.isp_typed.specs.Verdicts.{made}
use Rattle.isp_types.specs.reader.Boxes.{boxed_pair}
use Rattle.isp_types.specs.reader.Lists.{bounds_verdict}
use Rattle.isp_types.proofs.parts.all_bounds.Given as goal

abbrev pub invariant-loop-r : goal.invariant-loop-r
invariant-loop-r l =
    map (made boxed_pair) l.done.items
    ≡ map (bounds_verdict l.setting.gang l.setting.headers.now l.scope) (map read_range (take l.r-index l.all))
