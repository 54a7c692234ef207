use Rattle.std.specs.Prelude.{length}
use Rattle.isp_registers.proofs.beginning.add_value.Goals as goal

pub push-requires-clause-named : goal.push-requires-clause-named
push-requires-clause-named c = c.requires.asked (length c.args.registers.now.scalars)

pub push-requires-in-Varying-clause-named : goal.push-requires-in-Varying-clause-named
push-requires-in-Varying-clause-named c = c.requires.asked (length c.args.registers.now.vectors)
