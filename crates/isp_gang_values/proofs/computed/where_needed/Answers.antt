use Rattle.std.proofs.Common.{sym, ap, ◌∙◌}
use Rattle.isp_base.specs.Maps.{where_true}
use Rattle.isp_meaning.specs.Expressions.{needs}
use Rattle.isp_gang_values.specs.Seen.{map_of}
use Rattle.isp_gang_values.proofs.computed.where_needed.Goals as goal

pub returns-in-And : goal.returns-in-And
returns-in-And c = c.where_is.ensures ∙ sym (ap (λ l. where_true (needs l) (map_of c.args.row.now)) c.in-And.is)

pub returns-in-Or : goal.returns-in-Or
returns-in-Or c = c.where_is-in-Or.ensures ∙ sym (ap (λ l. where_true (needs l) (map_of c.args.row.now)) c.in-Or.is)
