use Rattle.std.proofs.Common.{arith}
use Rattle.isp_lsp_command.proofs.Streams.{framed_more}
use Rattle.isp_lsp_command.proofs.answer.all_framed.Goals as goal

pub loop-message-preserved : goal.loop-message-preserved
loop-message-preserved c =
    framed_more c.args.messages.now c.loop-message.message-index c.message-item.result c.loop-message-test.true c.message-item.is _ _ _ c.loop-message.invariant c.in_ok-one.ensures (grind arith)
