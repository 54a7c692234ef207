use Rattle.std.proofs.Common.{sym, ap, ◌∙◌}
use Rattle.isp_base.specs.Sets.{flag_of}
use Rattle.isp_meaning.specs.Expressions.{settled}
use Rattle.isp_meaning.specs.Payloads.{Each, layer, spread}
use Rattle.isp_gang_values.specs.Seen.{map_of, payload_of}
use Rattle.isp_gang_values.proofs.computed.settled.Goals as goal

pub returns-in-Each : goal.returns-in-Each
returns-in-Each c =
    ap Each (c.layer.ensures ∙ ap (λ m. layer m (map_of c.in-Each.row)) (c.spread-over.ensures ∙ ap (λ a. spread a (payload_of c.args.right.now)) c.where_needed.ensures))
    ∙ sym (ap (λ v. settled c.args.logic (flag_of c.args.set.now) (payload_of v) (payload_of c.args.right.now)) c.in-Each.is)
