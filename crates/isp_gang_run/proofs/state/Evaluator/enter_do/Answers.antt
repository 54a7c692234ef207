use Rattle.isp_gang_run.proofs.Progress.{leaves_as}
use Rattle.isp_gang_run.specs.Due.{own, turns_due}
use Rattle.isp_gang_run.specs.declared.loops.Turning.{Turning}
use Rattle.std.proofs.Common.{refl, None, Some, ap, sym}
use Rattle.isp_base.specs.Sets.{flag_of}
use Rattle.isp_gang_run.specs.Arms.{enters_by_turn}
use Rattle.isp_gang_run.specs.Tasks.{Halts}
use Rattle.isp_gang_run.proofs.Arms.{enters_turns, enters_turns_halts}
use Rattle.isp_gang_run.proofs.Turns.{at_err}
use Rattle.isp_gang_run.proofs.state.Evaluator.enter_do.Goals as goal

pub returns-in_err-turn-clause-err : goal.returns-in_err-turn-clause-err
returns-in_err-turn-clause-err c =
    at_err c.from_residual.result c.in_err-turn.field-0.0 (Halts c.args.self.now c.turn.new.self (enters_by_turn c.args.self.now (Some c.args.test) c.args.body (flag_of c.args.set))) c.from_residual.ensures.1
    (enters_turns_halts c.args.self.now c.turn.new.self c.tick.new.self c.tick.ensures c.args.set (Some c.args.test) None c.args.body
    c.new-turning.result c.new-turning.ensures.entered c.new-turning.ensures.returned refl c.in_err-turn.field-0.0 c.in_err-turn.ensures.err)

pub returns-clause-ok : goal.returns-clause-ok
returns-clause-ok c =
    enters_turns c.args.self.now c.turn.new.self c.tick.new.self c.tick.ensures c.args.set (Some c.args.test) None c.args.body c.new-turning.result c.new-turning.ensures.entered c.new-turning.ensures.returned refl c.in_ok-turn.ensures.ok

pub returns-clause-fewer : goal.returns-clause-fewer
returns-clause-fewer c =
    leaves_as c.args.self.now c.turn.new.self c.args.self.now.left (ap (λ (t : Turning). own c.args.self.now turns_due t.looping t.left) (sym c.new-turning.ensures.entered)) c.in_ok-turn.ensures.fewer
