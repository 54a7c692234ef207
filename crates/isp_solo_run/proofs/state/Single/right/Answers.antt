use Rattle.isp_solo_run.specs.Tasks.{store_seen}
use Rattle.isp_solo_run.proofs.Nodes.{right_node}
use Rattle.isp_solo_run.proofs.Steps.{tells_by}
use Rattle.isp_solo_run.proofs.state.Single.right.Goals as goal

pub returns : goal.returns
returns c =
    tells_by _ c.both.result c.args.self.now c.both.new.self _ _ (right_node c.args.self.now (store_seen c.args.self.now) c.args.joining c.args.right) c.both.ensures
