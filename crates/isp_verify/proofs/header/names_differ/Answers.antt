use Rattle.std.proofs.Common.{◌∙◌, ◌+◌, sym, ap, true, false}
use Rattle.std.specs.Prelude.{not}
use Rattle.isp_code.specs.declared.function.Param.{Param}
use Rattle.isp_verify.proofs.Names.{has_name, with_one, differ_step, differ_all}
use Rattle.isp_verify.proofs.header.names_differ.Goals as goal

pub returns-then-not-branch : goal.returns-then-not-branch
returns-then-not-branch c =
    let x = c.param-item.result in
    let had = c.loop-param.invariant.names x.name in
    let added = c.in_ok-insert.ensures.added ∙ (ap (λ w. not (has_name c.loop-param.names w)) c.as_str.ensures ∙ ap not had) in
    sym (differ_all c.args.params.now (c.loop-param.param-index + 1)
    (differ_step c.args.params.now c.loop-param.param-index x false c.loop-param-test.true c.param-item.is c.loop-param.invariant.differ (sym c.if-not-branch.true ∙ added)))

pub loop-param-preserved : goal.loop-param-preserved
loop-param-preserved c =
    let x = c.param-item.result in
    let had = c.loop-param.invariant.names x.name in
    let added = c.in_ok-insert.ensures.added ∙ (ap (λ w. not (has_name c.loop-param.names w)) c.as_str.ensures ∙ ap not had) in
    record {
      names = λ w. with_one (λ (p : Param). p.name) c.loop-param.names c.insert.new.self c.args.params.now c.loop-param.param-index x c.as_str.result
          c.loop-param-test.true (sym c.param-item.is) c.as_str.ensures c.in_ok-insert.ensures.updates w (c.loop-param.invariant.names w);
      differ = differ_step c.args.params.now c.loop-param.param-index x true c.loop-param-test.true c.param-item.is c.loop-param.invariant.differ (sym c.if-not-branch.false ∙ added);
    }
