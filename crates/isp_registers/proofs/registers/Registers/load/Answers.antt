use Rattle.std.proofs.Common.{ap}
use Rattle.std.proofs.lemmas.Result.{on_ok_weaker}
use Rattle.std.specs.Prelude.{is_some}
use Rattle.isp_base.specs.declared.types.Elem.TheVariants.{Bool as Truth}
use Rattle.isp_registers.specs.declared.registers.RegisterName.TheVariants as one
use Rattle.isp_registers.proofs.Lookup.{elem_pushed}
use Rattle.isp_registers.proofs.registers.Registers.load.Goals as goal

pub returns-in-Some-clause-given : goal.returns-in-Some-clause-given
returns-in-Some-clause-given c = ap is_some c.in-Some.ensures.elem

pub returns-in-None-clause-given : goal.returns-in-None-clause-given
returns-in-None-clause-given c =
    on_ok_weaker c.push.result (λ all. ap is_some (elem_pushed c.args.self.now.loaded c.push.new.self (record { name = one.Variable c.args.number; elem = Truth }) all c.in-None.ensures.none)) c.push.ensures.ok
