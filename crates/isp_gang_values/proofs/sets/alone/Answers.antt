use Rattle.isp_gang_values.proofs.Masks.{alone_made}
use Rattle.isp_gang_values.proofs.sets.alone.Goals as goal

pub returns : goal.returns
returns c = alone_made c.args.instance c.requires
