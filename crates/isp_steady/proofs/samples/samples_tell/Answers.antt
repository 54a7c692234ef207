use Rattle.isp_steady.proofs.Sampled.{samples_tell}
use Rattle.isp_steady.proofs.samples.samples_tell.Goals as goal

pub returns : goal.returns
returns c = samples_tell
