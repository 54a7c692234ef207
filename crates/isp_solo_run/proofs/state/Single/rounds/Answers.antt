use Rattle.isp_solo_run.proofs.Foreach.{no_round_tells, same_tells}
use Rattle.std.proofs.Common.{◌≡◌, sym, ap, ◌∙◌, false}
use Rattle.isp_base.specs.Types.{gang_width}
use Rattle.isp_gang_values.specs.Left.{is_ready, runs_left}
use Rattle.isp_solo_run.specs.Tasks.{store_seen}
use Rattle.isp_solo_run.specs.declared.rounds.Rounds.{Rounds}
use Rattle.isp_solo_run.proofs.Foreach.{no_round, rounds_same}
use Rattle.isp_gang_values.proofs.Left.{no_next_run}
use Rattle.isp_solo_run.proofs.Steps.{tells_by}
use Rattle.isp_solo_run.proofs.state.Single.rounds.Goals as goal

pub returns-then-ready : goal.returns-then-ready
returns-then-ready c =
    let old = c.args.self.now in
    let g = old.setting.program.now.gang in
    same_tells c.round.result old c.round.new.self c.args.rounds (record c.args.rounds { value = record c.deref_mut.result.now { ranges = c.carry.new.ranges } }) (ap (λ (x : Rounds). x.body) c.deref_mut.ensures.value)
    (c.carry.ensures.left g ∙ ap (λ (x : Rounds). runs_left (gang_width g) x.ranges.items) c.deref_mut.ensures.value)
    c.round.ensures

pub returns-else-ready : goal.returns-else-ready
returns-else-ready c =
    let old = c.args.self.now in
    let g = old.setting.program.now.gang in
    let not_ready : is_ready c.carry.new.ranges.items ≡ false = sym (ap is_ready (c.as_slice.ensures.value ∙ ap (λ (x : Rounds). x.ranges.items) c.deref.ensures)) ∙ sym c.is_ready-ready.ensures ∙ c.if-ready.false in
    no_round_tells c.leave.result old c.leave.new.self c.args.rounds
    (sym (c.carry.ensures.left g ∙ ap (λ (x : Rounds). runs_left (gang_width g) x.ranges.items) c.deref_mut.ensures.value) ∙ no_next_run g c.carry.new.ranges.items c.carry.ensures.within not_ready)
    c.leave.ensures
