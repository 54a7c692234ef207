use Rattle.std.proofs.Common.{◌∙◌, ap, sym}
use Rattle.isp_solo_meaning.specs.Alone.{variable}
use Rattle.isp_base.specs.declared.types.Rate.{Rate}
use Rattle.isp_gang_values.specs.Growing.{values_of}
use Rattle.isp_solo_run.specs.Tasks.{state_seen}
use Rattle.isp_solo_run.proofs.state.Single.variable.Goals as goal

pub returns-in-Uniform : goal.returns-in-Uniform
returns-in-Uniform c =
    c.at.ensures ∙ ap (λ xs. values_of xs c.args.number) c.as_slice.ensures.value ∙ sym (ap (λ (r : Rate). variable r c.args.number (state_seen c.args.self.now)) c.in-Uniform.is)

pub returns-in-Varying : goal.returns-in-Varying
returns-in-Varying c =
    c.at-in-Varying.ensures ∙ ap (λ xs. values_of xs c.args.number) c.as_slice-in-Varying.ensures.value ∙ sym (ap (λ (r : Rate). variable r c.args.number (state_seen c.args.self.now)) c.in-Varying.is)
