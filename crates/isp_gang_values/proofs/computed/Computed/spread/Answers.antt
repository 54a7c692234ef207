use Rattle.std.proofs.Common.{sym, ap, ◌∙◌}
use Rattle.isp_base.specs.Sets.{flag_of}
use Rattle.isp_meaning.specs.Payloads.{spread}
use Rattle.isp_gang_values.specs.Seen.{payload_of}
use Rattle.isp_gang_values.proofs.computed.Computed.spread.Goals as goal

pub returns-in-One : goal.returns-in-One
returns-in-One c = c.repeated.ensures ∙ sym (ap (λ v. spread (flag_of c.args.set.now) (payload_of v)) c.in-One.is)
