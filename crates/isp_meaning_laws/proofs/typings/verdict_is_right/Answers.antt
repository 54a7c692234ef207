use Rattle.isp_meaning_laws.proofs.Typed.{verdict_is_right}
use Rattle.isp_meaning_laws.proofs.typings.verdict_is_right.Goals as goal

pub returns : goal.returns
returns c = verdict_is_right
