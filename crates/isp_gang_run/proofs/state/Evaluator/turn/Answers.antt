use Rattle.isp_gang_run.proofs.Progress.{leaves_as}
use Rattle.isp_typed.specs.Views.{stmt_of}
use Rattle.isp_gang_run.specs.Most.{two}
use Rattle.isp_gang_run.specs.Due.{own, run_due, step_due, turns_due}
use Rattle.isp_gang_run.specs.declared.loops.Turning.{Turning}
use Rattle.std.proofs.Common.{◌≡◌, refl, suc, ◌-◌, arith, ap, sym, ℕ, ◌∙◌}
use Rattle.isp_gang_run.proofs.Turns.{turn_goes, no_turn}
use Rattle.isp_gang_run.proofs.state.Evaluator.turn.Goals as goal

pub returns-then-left-eq0-clause-err : goal.returns-then-left-eq0-clause-err
returns-then-left-eq0-clause-err c = no_turn c.args.self.now c.args.self.now c.args.turning refl c.if-left-eq0.true

pub returns-clause-ok : goal.returns-clause-ok
returns-clause-ok c =
    let more : c.args.turning.left ≡ suc (c.args.turning.left - 1) = omega (arith, c.if-left-eq0.false) in
    turn_goes c.args.self.now c.both.new.self c.tick.new.self c.tick.ensures c.args.turning c.in_ok-after.after (c.args.turning.left - 1) more c.in_ok-after.ensures.ok c.in_ok-both.ensures.ok

pub returns-clause-fewer : goal.returns-clause-fewer
returns-clause-fewer c =
    let more : c.args.turning.left ≡ suc (c.args.turning.left - 1) = omega (arith, c.if-left-eq0.false) in
    leaves_as c.args.self.now c.both.new.self c.args.self.now.left (ap (λ (k : ℕ). own c.args.self.now turns_due c.args.turning.looping k) more
    ∙ ap (λ (t : Turning). two (own c.args.self.now run_due (stmt_of c.args.turning.looping.body.now)) (own c.args.self.now step_due t.looping t.left)) (sym c.in_ok-after.ensures.ok)) c.in_ok-both.ensures.fewer
