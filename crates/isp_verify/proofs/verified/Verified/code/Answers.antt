use Rattle.std.proofs.Common.{subst}
use Rattle.isp_verify.specs.Progress.{NeverStuck}
use Rattle.isp_verify.proofs.ProgressLaws.{never_stuck}
use Rattle.isp_verify.proofs.verified.Verified.code.Goals as goal

pub returns-clause-goes_on : goal.returns-clause-goes_on
returns-clause-goes_on c = subst NeverStuck c.self.view_is (never_stuck c.self.inside.code c.self.invariant.0)
