use Rattle.isp_typed.specs.Views.{block_of}
use Rattle.isp_masks.proofs.ConstantRows.{function_written}
use Rattle.isp_masks.proofs.routine.body.Goals as goal

pub returns : goal.returns
returns c =
    function_written c.args.on.now c.args.kept.now (block_of c.args.x.now) c.args.b.now c.begin.new.b c.block.new.b c.push.new.self c.in_ok-begin.ensures c.in_ok-block.ensures (rw c.returned.ensures at c.in_ok-push.ensures)
