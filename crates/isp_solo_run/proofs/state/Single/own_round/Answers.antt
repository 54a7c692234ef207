use Rattle.std.proofs.Common.{ap, ◌∙◌}
use Rattle.isp_base.specs.Types.{gang_width}
use Rattle.isp_solo_meaning.specs.Loops.{at_indices}
use Rattle.std.proofs.Common.{List, subst}
use Rattle.isp_gang_values.specs.Left.{advanced, indices_now}
use Rattle.isp_solo_run.specs.Tasks.{Changes}
use Rattle.isp_gang_values.specs.declared.ranges.Range.{Range}
use Rattle.isp_solo_run.specs.declared.rounds.Rounds.{Rounds}
use Rattle.isp_solo_run.specs.declared.state.Single.{Single}
use Rattle.isp_solo_run.proofs.Foreach.{own_tells}
use Rattle.isp_solo_run.proofs.Results.{at_ok}
use Rattle.isp_solo_run.proofs.state.Single.own_round.Goals as goal

pub returns-in-Ok : goal.returns-in-Ok
returns-in-Ok c =
    let old = c.args.self.now in
    let mid = c.set_indices.new.self in
    let set = subst (λ (rs : List Range). Changes old mid (at_indices old.setting.instance (indices_now rs))) (ap (λ (x : Rounds). x.ranges.items) c.deref-2.ensures) (at_ok c.set_indices.result _ c.in-Ok.is c.set_indices.ensures) in
    own_tells c.both.result old mid c.both.new.self c.args.rounds (record c.args.rounds { value = record c.deref_mut.result.now { ranges = c.advance.new.ranges } }) c.deref.result.now.body c.requires.ready c.requires.on set
    (ap (λ (x : Rounds). x.body) c.deref_mut.ensures.value)
    (c.advance.ensures ∙ ap (λ (e : Single). advanced (gang_width e.setting.program.now.gang) c.deref_mut.result.now.ranges.items) set.same
    ∙ ap (λ (x : Rounds). advanced (gang_width old.setting.program.now.gang) x.ranges.items) c.deref_mut.ensures.value)
    (ap (λ (x : Rounds). x.body) c.deref.ensures) c.both.ensures
