use Rattle.isp_gang_run.proofs.Fewer.{same_runs}
use Rattle.isp_gang_run.specs.Due.{due_now, own, rounds_due}
use Rattle.isp_gang_run.specs.declared.state.Evaluator.{Evaluator}
use Rattle.isp_gang_run.proofs.Progress.{leaves_as, same_leaves}
use Rattle.std.proofs.Common.{◌≡◌, sym, ap, ◌∙◌, false, Box, Global}
use Rattle.isp_base.specs.Sets.{flag_of}
use Rattle.isp_base.specs.Types.{gang_width}
use Rattle.isp_gang_values.specs.Left.{is_ready, runs_left}
use Rattle.isp_gang_run.specs.Tasks.{all_parts}
use Rattle.isp_gang_run.specs.declared.rounds.Rounds.{Rounds}
use Rattle.isp_gang_run.proofs.Foreach.{no_round, rounds_same}
use Rattle.isp_gang_values.proofs.Left.{no_next_run}
use Rattle.isp_gang_run.proofs.state.Evaluator.rounds.Goals as goal

pub returns-else-ready-clause-ok : goal.returns-else-ready-clause-ok
returns-else-ready-clause-ok c =
    let g = c.args.self.now.program.now.gang in
    let not_ready : is_ready c.carry.new.ranges.items ≡ false = sym (ap is_ready (c.as_slice.ensures.value ∙ ap (λ (x : Rounds). x.ranges.items) c.deref.ensures)) ∙ sym c.is_ready-ready.ensures ∙ c.if-ready.false in
    no_round c.args.self.now c.leave.new.self c.args.rounds c.all.result
    (sym (c.carry.ensures.left g ∙ ap (λ (x : Rounds). runs_left (gang_width g) x.ranges.items) c.deref_mut.ensures.value) ∙ no_next_run g c.carry.new.ranges.items c.carry.ensures.within not_ready)
    (c.all.ensures ∙ ap (λ (x : Rounds). all_parts (flag_of x.set)) c.deref-else-ready.ensures ∙ ap (λ (x : Rounds). all_parts (flag_of x.set)) c.deref_mut.ensures.value) c.leave.ensures

pub returns-in_ok-round-clause-ok : goal.returns-in_ok-round-clause-ok
returns-in_ok-round-clause-ok c =
    let g = c.args.self.now.program.now.gang in
    rounds_same c.args.self.now c.round.new.self c.args.rounds
    (record c.args.rounds { value = record c.deref_mut.result.now { ranges = c.carry.new.ranges } })
    (ap (λ (x : Rounds). x.body) c.deref_mut.ensures.value) (ap (λ (x : Rounds). x.set) c.deref_mut.ensures.value)
    (c.carry.ensures.left g ∙ ap (λ (x : Rounds). runs_left (gang_width g) x.ranges.items) c.deref_mut.ensures.value) c.in_ok-round.ensures.ok

pub returns-else-ready-clause-fewer : goal.returns-else-ready-clause-fewer
returns-else-ready-clause-fewer c =
    same_leaves c.args.self.now c.leave.new.self (own c.args.self.now rounds_due c.args.rounds.value) (ap (λ (e : Evaluator). due_now e) c.leave.ensures)

pub returns-in_ok-round-clause-fewer : goal.returns-in_ok-round-clause-fewer
returns-in_ok-round-clause-fewer c =
    let g = c.args.self.now.program.now.gang in
    let d : Box Rounds Global = record c.args.rounds { value = record c.deref_mut.result.now { ranges = c.carry.new.ranges } } in
    leaves_as c.args.self.now c.round.new.self c.args.self.now.left (same_runs c.args.self.now c.args.rounds d (ap (λ (x : Rounds). x.body) c.deref_mut.ensures.value)
    (c.carry.ensures.left g ∙ ap (λ (x : Rounds). runs_left (gang_width g) x.ranges.items) c.deref_mut.ensures.value)) c.in_ok-round.ensures.fewer
