use Rattle.std.proofs.Common.{sym, ap, ◌∙◌}
use Rattle.std.specs.Prelude.{option_map}
use Rattle.isp_base.specs.Sets.{flag_of}
use Rattle.isp_meaning.specs.Payloads.{spread}
use Rattle.isp_gang_values.specs.Seen.{payload_of}
use Rattle.isp_gang_values.proofs.Vectors.{zeros}
use Rattle.isp_gang_run.specs.Entering.{each_given}
use Rattle.isp_gang_run.proofs.Begun.{over_zeros}
use Rattle.isp_gang_run.proofs.entering.each_passed.Goals as goal

pub returns-in-None : goal.returns-in-None
returns-in-None c =
    let a = flag_of c.args.set.now in
    zeros ∙ sym (ap (λ o. each_given a (option_map payload_of o)) c.in-None.is) ∙ c.varying_passed.ensures a

pub returns-in-Some : goal.returns-in-Some
returns-in-Some c =
    let a = flag_of c.args.set.now in
    over_zeros c.spread.result (spread a (payload_of c.in-Some.value)) c.over.result c.over.ensures c.spread.ensures ∙ sym (ap (λ o. each_given a (option_map payload_of o)) c.in-Some.is) ∙ c.varying_passed.ensures a
