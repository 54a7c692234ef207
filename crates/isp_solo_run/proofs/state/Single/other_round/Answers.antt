use Rattle.isp_solo_run.proofs.Foreach.{other_tells}
use Rattle.std.proofs.Common.{ap, ◌∙◌}
use Rattle.isp_base.specs.Types.{gang_width}
use Rattle.isp_gang_values.specs.Left.{advanced}
use Rattle.isp_solo_run.specs.Tasks.{store_seen}
use Rattle.isp_solo_run.specs.declared.rounds.Rounds.{Rounds}
use Rattle.isp_solo_run.proofs.Foreach.{other_is}
use Rattle.isp_solo_run.proofs.Steps.{tells_by}
use Rattle.isp_solo_run.proofs.state.Single.other_round.Goals as goal

pub returns : goal.returns
returns c =
    let old = c.args.self.now in
    other_tells c.later.result old c.later.new.self c.args.rounds (record c.args.rounds { value = record c.deref_mut.result.now { ranges = c.advance.new.ranges } }) c.requires.ready c.requires.on (ap (λ (x : Rounds). x.body) c.deref_mut.ensures.value)
    (c.advance.ensures ∙ ap (λ (x : Rounds). advanced (gang_width old.setting.program.now.gang) x.ranges.items) c.deref_mut.ensures.value)
    c.later.ensures
