use Rattle.isp_solo_run.proofs.Changes.{uniforms_changed, varying_changed}
use Rattle.isp_solo_run.proofs.state.Single.write.Goals as goal

pub returns-in_ok-put-in-Uniform : goal.returns-in_ok-put-in-Uniform
returns-in_ok-put-in-Uniform c =
    uniforms_changed c.args.self.now c.put.new.values c.args.rate c.args.number c.args.bits c.in-Uniform.is c.in_ok-put-in-Uniform.ensures.ok

pub returns-in_ok-put-in-Varying : goal.returns-in_ok-put-in-Varying
returns-in_ok-put-in-Varying c =
    varying_changed c.args.self.now c.put-in-Varying.new.values c.args.rate c.args.number c.args.bits c.in-Varying.is c.in_ok-put-in-Varying.ensures.ok
