use Rattle.isp_typed.specs.Views.{range_of}
use Rattle.isp_types.proofs.Seen.{seen_pushed_boxed}
use Rattle.isp_types.proofs.parts.push_range.Goals as goal

pub returns : goal.returns
returns c = seen_pushed_boxed range_of _ c.args.so_far c.args.part c.push_boxed.ensures
