use Rattle.std.proofs.Common.{arith}
use Rattle.isp_rpc_frames.specs.Messages.{in_content}
use Rattle.isp_rpc_frames.proofs.frame.content.Goals as goal

pub returns-then-bytes-start : goal.returns-then-bytes-start
returns-then-bytes-start c = in_content c.args.start c.args.size c.requires (omega (arith, c.if-bytes-start.true))
