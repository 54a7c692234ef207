use Rattle.isp_gang_run.proofs.Progress.{leaves_within}
use Rattle.isp_gang_run.specs.Due.{own, turns_due}
use Rattle.std.proofs.Common.{sym, ap, ◌∙◌, arith}
use Rattle.isp_base.specs.Sets.{any, flag_of}
use Rattle.isp_base.specs.Types.{gang_width}
use Rattle.isp_gang_run.specs.Tasks.{Halts, keeps_on}
use Rattle.isp_gang_run.proofs.Turns.{at_err, turns_halt}
use Rattle.isp_gang_run.proofs.state.Evaluator.tested.Goals as goal

pub returns-in_err-turn-clause-err : goal.returns-in_err-turn-clause-err
returns-in_err-turn-clause-err c =
    at_err c.from_residual.result c.in_err-turn.field-0.0 (Halts c.args.self.now c.turn.new.self (keeps_on c.args.self.now c.args.turning)) c.from_residual.ensures.1
    (turns_halt c.args.self.now c.turn.new.self c.args.turning c.members-kept.result c.in_err-turn.field-0.0 c.members-kept.ensures
    (ap (λ g. any (gang_width g) (flag_of c.members-kept.result)) (sym c.gang.ensures) ∙ sym c.any.ensures ∙ c.if-any.true) c.in_err-turn.ensures.err)
