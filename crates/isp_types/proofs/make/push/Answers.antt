use Rattle.isp_typed.specs.Views.{stmt_of}
use Rattle.isp_types.proofs.Seen.{seen_pushed}
use Rattle.isp_types.proofs.make.push.Goals as goal

pub returns : goal.returns
returns c = seen_pushed stmt_of _ c.args.so_far c.args.part c.push.ensures
