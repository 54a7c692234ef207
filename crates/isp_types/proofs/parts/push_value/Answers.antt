use Rattle.isp_typed.specs.Views.{expr_of}
use Rattle.isp_types.proofs.Seen.{seen_pushed_boxed}
use Rattle.isp_types.proofs.parts.push_value.Goals as goal

pub returns : goal.returns
returns c = seen_pushed_boxed expr_of _ c.args.so_far c.args.part c.push_boxed.ensures
