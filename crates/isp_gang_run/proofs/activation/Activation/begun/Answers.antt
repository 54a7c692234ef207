use Rattle.std.proofs.Common.{map, ◌∙◌}
use Rattle.isp_base.specs.Sets.{flag_of}
use Rattle.isp_gang_run.specs.Seen.{passed_seen}
use Rattle.isp_gang_run.proofs.Begun.{frame_begun, state_begun}
use Rattle.isp_gang_run.proofs.activation.Activation.begun.Goals as goal

pub returns-clause-frame : goal.returns-clause-frame
returns-clause-frame c =
    frame_begun c.args.function (map passed_seen c.args.passed.now) c.args.caller.now c.as_slice-variables.result.now c.in_ok-sizes.sizes.items c.in_ok-named.named.items c.stores.new.sizes.items
    c.as_slice-variables.ensures.value (c.in_ok-sizes.ensures ∙ c.as_slice.ensures.value) c.in_ok-named.ensures.sizes c.in_ok-named.ensures.named

pub returns-clause-state : goal.returns-clause-state
returns-clause-state c s =
    state_begun c.args.function.now (map passed_seen c.args.passed.now) c.args.caller.now (flag_of c.args.set.now) s c.as_slice-variables.result.now c.in_ok-uniforms.uniforms.items c.in_ok-varying.varying.items c.new.result.items
    c.as_slice-variables.ensures.value c.in_ok-uniforms.ensures c.in_ok-varying.ensures c.new.ensures.items
