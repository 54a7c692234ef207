use Rattle.std.proofs.Common.{sym, ap, ap₂, ◌∙◌}
use Rattle.isp_base.specs.Access.{element}
use Rattle.isp_base.specs.Maps.{Map, each1}
use Rattle.isp_base.specs.Sets.{flag_of}
use Rattle.isp_meaning.specs.Payloads.{Each, mapped}
use Rattle.isp_meaning.specs.Places.{elements}
use Rattle.isp_gang_values.specs.Seen.{payload_of}
use Rattle.isp_gang_run.specs.Seen.{frame_seen, state_seen}
use Rattle.isp_gang_arrays.specs.Stores.{stores_of, own_of}
use Rattle.isp_gang_run.proofs.state.Evaluator.elements.Goals as goal

pub returns-in-Uniform : goal.returns-in-Uniform
returns-in-Uniform c w =
    c.shared.ensures ∙ ap (λ b. mapped (λ x. stores_of c.args.self.now.stores.items b (element c.args.elem x)) (payload_of c.args.index.now)) c.store.ensures
    ∙ sym (ap (λ k. elements (frame_seen c.args.self.now.here) c.args.array c.args.elem (payload_of c.args.index.now) (flag_of c.args.set.now) k (state_seen c.args.self.now w)) c.in-Uniform.is)

pub returns-in-Varying : goal.returns-in-Varying
returns-in-Varying c w =
    ap Each (c.picked_own.ensures ∙ ap₂ {C = Map} (λ xs (m : Map) p. each1 (λ x. own_of xs c.args.array.number (element c.args.elem x) p) (m p)) c.as_slice-arrays.ensures.value c.spread-indices.ensures)
    ∙ sym (ap (λ k. elements (frame_seen c.args.self.now.here) c.args.array c.args.elem (payload_of c.args.index.now) (flag_of c.args.set.now) k (state_seen c.args.self.now w)) c.in-Varying.is)
