use Rattle.isp_typed.specs.Views.{function_of}
use Rattle.isp_types.proofs.Seen.{seen_pushed}
use Rattle.isp_types.proofs.function.push.Goals as goal

pub returns : goal.returns
returns c = seen_pushed function_of _ c.args.so_far c.args.part c.push.ensures
