use Rattle.std.proofs.Common.{◌≡◌, ℕ, subst, arith}
use Rattle.std.specs.Prelude.{Option}
use Rattle.isp_base.specs.Arguments.{rows}
use Rattle.isp_base.proofs.Gangs.{some_width}
use Rattle.isp_base.specs.Types.{gang_width}
use Rattle.isp_base.specs.declared.types.Elem.{Elem}
use Rattle.isp_typed.specs.Views.{program_of}
use Rattle.isp_solo_meaning.specs.Runs.{solo_run, bound}
use Rattle.isp_solo.specs.Left.{rows_left}
use Rattle.isp_solo.specs.Report.{Says}
use Rattle.isp_solo.specs.Together.{AreTogether}
use Rattle.isp_solo.proofs.Stopping.{trapped_first, cut_first, gives_is}
use Rattle.isp_solo.proofs.instances.report.Goals as goal

pub loop-instance-init : goal.loop-instance-init
loop-instance-init c = c.in_ok-together.ensures.none (solo_run (program_of c.args.program.now) c.args.function c.args.turns c.args.arguments.now (bound c.args.arguments.now))

pub loop-instance-preserved : goal.loop-instance-preserved
loop-instance-preserved c =
    c.in_ok-add-in-Gave.ensures (solo_run (program_of c.args.program.now) c.args.function c.args.turns c.args.arguments.now (bound c.args.arguments.now)) (rows c.args.arguments.now) c.loop-instance.invariant c.in_ok-run.ensures c.in-Gave.is

pub returns-in-Trapped-clause-came : goal.returns-in-Trapped-clause-came
returns-in-Trapped-clause-came c = λ h found. (
  c.loop-instance.instance,
  trapped_first (gang_width c.args.program.now.gang) (solo_run (program_of c.args.program.now) c.args.function c.args.turns c.args.arguments.now (bound c.args.arguments.now)) c.loop-instance.instance c.in_ok-run.run'
      (omega (arith, c.loop-instance-test.true, c.width-instance-end.ensures)) c.loop-instance.invariant.end c.in_ok-run.ensures _ c.in-Trapped.is,
)

pub returns-in-Cut-clause-came : goal.returns-in-Cut-clause-came
returns-in-Cut-clause-came c = λ h found.
    cut_first (gang_width c.args.program.now.gang) (solo_run (program_of c.args.program.now) c.args.function c.args.turns c.args.arguments.now (bound c.args.arguments.now)) c.loop-instance.instance c.in_ok-run.run'
    (omega (arith, c.loop-instance-test.true, c.width-instance-end.ensures)) c.loop-instance.invariant.end c.in_ok-run.ensures c.in-Cut.is

pub returns-clause-came : goal.returns-clause-came
returns-clause-came c = λ h found.
    let run = solo_run (program_of c.args.program.now) c.args.function c.args.turns c.args.arguments.now (bound c.args.arguments.now) in
    let n : c.loop-instance.instance ≡ gang_width c.args.program.now.gang = omega (arith, c.loop-instance-test.false, c.loop-instance.auto.instance-end, c.width-instance-end.ensures) in
    subst (λ (t : Option Elem). Says (gang_width c.args.program.now.gang) run c.args.arguments.now (rows_left run (rows c.args.arguments.now) (gang_width c.args.program.now.gang)) t c.ended.result)
    (gives_is c.args.program.now.functions.items c.args.function c.index.result.now h c.requires c.index.ensures found)
    (c.ended.ensures (gang_width c.args.program.now.gang) run (rows c.args.arguments.now) (some_width c.args.program.now.gang)
    (subst (λ (k : ℕ). AreTogether run (rows c.args.arguments.now) k c.loop-instance.together) n c.loop-instance.invariant))
