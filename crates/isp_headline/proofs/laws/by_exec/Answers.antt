use Rattle.isp_headline.proofs.FromSource.{by_exec}
use Rattle.isp_headline.proofs.laws.by_exec.Goals as goal

pub returns : goal.returns
returns g c = by_exec c.text_laws.ensures.one c.text_laws.ensures.faultless (g.F.SourceFiles.holds c.args.files.now) (g.G.SourceFiles.holds c.args.later.now)
