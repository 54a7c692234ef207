use Rattle.std.proofs.lemmas.Result.{on_ok_weaker}
use Rattle.isp_registers.proofs.Growing.{scalar_kept, vector_kept}
use Rattle.isp_registers.proofs.registers.Registers.keep.Goals as goal

pub returns-in-Uniform : goal.returns-in-Uniform
returns-in-Uniform c = on_ok_weaker c.kept_or_new.result (λ k. scalar_kept c.args.self.now c.kept_or_new.new.rows c.args.it c.in-Uniform.is k) c.kept_or_new.ensures

pub returns-in-Varying : goal.returns-in-Varying
returns-in-Varying c = on_ok_weaker c.kept_or_new-in-Varying.result (λ k. vector_kept c.args.self.now c.kept_or_new-in-Varying.new.rows c.args.it c.in-Varying.is k) c.kept_or_new-in-Varying.ensures
