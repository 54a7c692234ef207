use Rattle.std.proofs.lemmas.Result.{on_ok_weaker}
use Rattle.isp_registers.proofs.Lookup.{found_kept, pushed_kept}
use Rattle.isp_registers.proofs.registers.kept_or_new.Goals as goal

pub returns-in-Some : goal.returns-in-Some
returns-in-Some c = found_kept c.args.rows.now c.args.elem c.in-Some.field-0.1 c.args.bits c.in-Some.ensures.elem c.in-Some.ensures.own

pub returns-in-None : goal.returns-in-None
returns-in-None c = on_ok_weaker c.push.result (λ all. pushed_kept c.args.rows.now c.push.new.self c.args.elem c.args.bits all c.in-None.ensures.none) c.push.ensures.ok
