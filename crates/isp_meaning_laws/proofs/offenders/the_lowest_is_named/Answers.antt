use Rattle.isp_meaning_laws.proofs.Lowest.{the_lowest_is_named}
use Rattle.isp_meaning_laws.proofs.offenders.the_lowest_is_named.Goals as goal

pub returns : goal.returns
returns c = the_lowest_is_named
