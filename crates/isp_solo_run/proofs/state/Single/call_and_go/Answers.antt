use Rattle.isp_solo_run.proofs.Handing.{call_goes_tells}
use Rattle.std.proofs.Common.{ap}
use Rattle.isp_solo_run.specs.Tasks.{go, goes, store_seen}
use Rattle.isp_solo_run.proofs.Handing.{call_node}
use Rattle.isp_solo_run.proofs.Steps.{tells_by}
use Rattle.isp_solo_run.proofs.state.Single.call_and_go.Goals as goal

pub returns : goal.returns
returns c =
    let old = c.args.self.now in
    call_goes_tells c.both.result old c.both.new.self c.args.call c.as_slice.result c.new.result c.as_slice.ensures.value c.new.ensures.items c.both.ensures
