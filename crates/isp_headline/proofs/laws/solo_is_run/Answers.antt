use Rattle.isp_headline.proofs.SoloRuns.{solo_is_run}
use Rattle.isp_headline.proofs.laws.solo_is_run.Goals as goal

pub returns : goal.returns
returns c = solo_is_run
