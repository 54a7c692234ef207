use Rattle.isp_headline.proofs.FromSource.{by_run}
use Rattle.isp_headline.proofs.laws.by_run.Goals as goal

pub returns : goal.returns
returns g c = by_run (g.F.SourceFiles.holds c.args.files.now)
