use Rattle.isp_typed.specs.Views.{item_of}
use Rattle.isp_types.proofs.Seen.{seen_pushed_boxed}
use Rattle.isp_types.proofs.declaration.push.Goals as goal

pub returns : goal.returns
returns c = seen_pushed_boxed item_of _ c.args.so_far c.args.part c.push_boxed.ensures
