use Rattle.isp_solo_run.proofs.Outcomes.{fresh_is}
use Rattle.isp_solo_run.proofs.running.begun.Goals as goal

pub returns-clause-state : goal.returns-clause-state
returns-clause-state c =
    fresh_is c.new-uniforms.result.items c.new-varying.result.items c.new-own.result.items c.begin.new.self.stores.items c.new-uniforms.ensures.items c.new-varying.ensures.items c.new-own.ensures.items c.begin.ensures.wrote c.begin.ensures.read
