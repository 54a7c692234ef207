use Rattle.isp_solo_run.proofs.Runs.{block_tells}
use Rattle.isp_solo_run.specs.Tasks.{store_seen}
use Rattle.isp_solo_run.proofs.Runs.{block_is}
use Rattle.isp_solo_run.proofs.Steps.{tells_by}
use Rattle.isp_solo_run.proofs.state.Single.block.Goals as goal

pub returns : goal.returns
returns c =
    block_tells c.statements.result c.args.self.now c.statements.new.self c.args.block.now c.as_slice.result.now c.as_slice.ensures.value c.statements.ensures
