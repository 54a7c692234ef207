use Rattle.std.proofs.Common.{sym, ap, ◌∙◌}
use Rattle.isp_base.specs.Access.{element}
use Rattle.isp_base.specs.Maps.{map1}
use Rattle.isp_meaning.specs.Payloads.{Each, mapped}
use Rattle.isp_gang_values.specs.Seen.{map_of, payload_of}
use Rattle.isp_gang_arrays.specs.Stores.{stores_of}
use Rattle.isp_gang_run.proofs.state.Evaluator.shared.Goals as goal

pub returns-in-Each : goal.returns-in-Each
returns-in-Each c =
    ap Each (c.picked.ensures ∙ ap (λ xs. map1 (λ x. stores_of xs c.args.store (element c.args.elem x)) (map_of c.in-Each.indices)) c.as_slice-stores.ensures.value)
    ∙ sym (ap (λ v. mapped (λ x. stores_of c.args.self.now.stores.items c.args.store (element c.args.elem x)) (payload_of v)) c.in-Each.is)
