use Rattle.isp_typed.specs.Views.{stmt_of}
use Rattle.isp_types.proofs.Seen.{seen_boxed}
use Rattle.isp_types.proofs.make.boxed.Goals as goal

pub returns : goal.returns
returns c = seen_boxed stmt_of _ c.args.inner c.boxed.ensures
