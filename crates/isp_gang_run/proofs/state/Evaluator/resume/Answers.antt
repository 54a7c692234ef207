use Rattle.std.proofs.Common.{◌≡◌, length, take, ap, ◌∙◌, arith}
use Rattle.isp_gang_arrays.specs.Stores.{stores_of}
use Rattle.isp_gang_run.proofs.Handing.{resume_does}
use Rattle.isp_gang_run.proofs.state.Evaluator.resume.Goals as goal

pub returns-clause-comes : goal.returns-clause-comes
returns-clause-comes c =
    let old = c.args.self.now in
    resume_does old c.args.caller c.args.left c.args.sets c.args.set c.answered-self.result c.into_inner.result c.truncate.new.self c.into_inner.ensures
    (λ w. c.answered-self.ensures (stores_of old.stores.items) old.output.items w)
    (c.truncate.ensures.items ∙ (let e : c.len.result ≡ length c.into_inner.result.sizes.items = omega (arith, c.len.ensures, c.into_inner.result.sizes.ok.0) in ap (λ k. take k old.stores.items) e))
