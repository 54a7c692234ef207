use Rattle.isp_solo_run.proofs.Handing.{call_tells}
use Rattle.isp_solo_run.specs.Tasks.{store_seen}
use Rattle.isp_solo_run.proofs.Handing.{call_node}
use Rattle.isp_solo_run.proofs.Steps.{tells_by}
use Rattle.isp_solo_run.proofs.state.Single.call.Goals as goal

pub returns : goal.returns
returns c =
    call_tells c.later.result c.args.self.now c.later.new.self c.args.call c.as_slice.result c.new.result c.as_slice.ensures.value c.new.ensures.items c.later.ensures
