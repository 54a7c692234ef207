use Rattle.isp_solo_run.proofs.Runs.{turn_tells}
use Rattle.std.proofs.Common.{◌≡◌, ◌∙◌, ◌-◌, suc, arith}
use Rattle.isp_solo_run.specs.Tasks.{store_seen}
use Rattle.isp_solo_run.proofs.Results.{at_found}
use Rattle.isp_solo_run.proofs.Runs.{no_turn, turn_goes}
use Rattle.isp_solo_run.proofs.Steps.{tells_by}
use Rattle.isp_solo_run.proofs.state.Single.turn.Goals as goal

pub returns-then-left-eq0 : goal.returns-then-left-eq0
returns-then-left-eq0 c =
    let old = c.args.self.now in
    no_turn old (store_seen old) c.args.turning c.if-left-eq0.true

pub returns-in-Ok : goal.returns-in-Ok
returns-in-Ok c =
    let old = c.args.self.now in
    let more : c.args.turning.left ≡ suc (c.args.turning.left - 1) = omega (arith, c.if-left-eq0.false) in
    turn_tells c.both.result old c.both.new.self c.args.turning c.in-Ok.after (c.args.turning.left - 1) more (at_found _ c.new.result _ c.in-Ok.is c.new.ensures.ok ∙ c.new-after.ensures) c.both.ensures
