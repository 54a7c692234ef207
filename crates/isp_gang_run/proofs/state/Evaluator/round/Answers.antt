use Rattle.isp_gang_run.proofs.Fewer.{one_run_less}
use Rattle.isp_typed.specs.declared.stmt.TypedStmt.{TypedStmt}
use Rattle.isp_gang_run.proofs.Progress.{leaves_as}
use Rattle.isp_typed.specs.Views.{stmt_of}
use Rattle.isp_gang_run.specs.Most.{two}
use Rattle.isp_gang_run.specs.declared.state.Evaluator.{Evaluator}
use Rattle.isp_gang_run.specs.Due.{WaitBoth, own, rounds_due, run_due}
use Rattle.std.proofs.Common.{List, ap, ap₂, subst, ◌∙◌, Bor, Box, Global, sym}
use Rattle.isp_base.specs.Sets.{flag_of}
use Rattle.isp_base.specs.Types.{gang_width}
use Rattle.isp_base.specs.declared.types.Gang.{Gang}
use Rattle.isp_meaning.specs.Rounds.{set_indices}
use Rattle.isp_gang_values.specs.Left.{advanced, indices_now, members_now}
use Rattle.isp_gang_run.specs.Tasks.{Changes}
use Rattle.isp_gang_values.specs.declared.ranges.Range.{Range}
use Rattle.isp_gang_run.specs.declared.rounds.Rounds.{Rounds}
use Rattle.isp_gang_run.proofs.Foreach.{one_round}
use Rattle.isp_gang_run.specs.declared.tasks.Task.TheVariants as task
use Rattle.isp_gang_run.proofs.state.Evaluator.round.Goals as goal

pub returns-clause-ok : goal.returns-clause-ok
returns-clause-ok c =
    let old = c.args.self.now in
    let mid = c.set_indices.new.self in
    let a = c.on_now-members.result in
    one_round old c.both.new.self c.args.rounds mid a _ c.requires
    (c.on_now-members.ensures ∙ ap₂ (λ (g : Gang) (rs : List Range). members_now (gang_width g) rs) c.gang-gang.ensures (ap (λ (x : Rounds). x.ranges.items) c.deref-2.ensures))
    (subst (λ (rs : List Range). Changes old mid (set_indices (flag_of a) (indices_now rs))) (ap (λ (x : Rounds). x.ranges.items) c.deref-3.ensures) c.in_ok-set_indices.ensures.ok)
    (ap (λ (x : Rounds). x.body) c.deref_mut.ensures.value) (ap (λ (x : Rounds). x.set) c.deref_mut.ensures.value)
    (c.advance.ensures ∙ ap₂ (λ (g : Gang) (rs : List Range). advanced (gang_width g) rs) c.gang-gang.ensures (ap (λ (x : Rounds). x.ranges.items) c.deref_mut.ensures.value))
    c.deref.result.now.body (ap (λ (x : Rounds). x.body) c.deref.ensures) c.in_ok-both.ensures.ok

pub returns-clause-fewer : goal.returns-clause-fewer
returns-clause-fewer c =
    let mid = c.set_indices.new.self in
    let d : Box Rounds Global = record c.args.rounds { value = record c.deref_mut.result.now { ranges = c.advance.new.ranges } } in
    leaves_as c.args.self.now c.both.new.self c.args.self.now.left (one_run_less c.args.self.now c.args.rounds d (ap (λ (x : Rounds). x.body) c.deref_mut.ensures.value) c.requires
    (c.advance.ensures ∙ ap₂ (λ (g : Gang) (rs : List Range). advanced (gang_width g) rs) c.gang-gang.ensures (ap (λ (x : Rounds). x.ranges.items) c.deref_mut.ensures.value))
    ∙ ap (λ (y : Bor TypedStmt). two (own c.args.self.now run_due (stmt_of y.now)) (own c.args.self.now rounds_due d.value)) (sym (ap (λ (x : Rounds). x.body) c.deref.ensures)))
    (subst (λ (e : Evaluator). WaitBoth e c.both.new.self (task.Run c.deref.result.now.body c.on_now-members.result) (task.Rounds d)) c.in_ok-set_indices.ensures.ok.same c.in_ok-both.ensures.fewer)
