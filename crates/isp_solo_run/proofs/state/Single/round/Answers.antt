use Rattle.std.proofs.Common.{◌∙◌, ap, sym}
use Rattle.isp_base.specs.Types.{gang_width}
use Rattle.isp_gang_values.specs.Left.{members_now}
use Rattle.isp_solo_run.specs.declared.rounds.Rounds.{Rounds}
use Rattle.isp_solo_run.proofs.state.Single.round.Goals as goal

pub own_round-requires-clause-on : goal.own_round-requires-clause-on
own_round-requires-clause-on c =
    sym (c.is_on-on.ensures ∙ ap (λ (x : Rounds). members_now (gang_width c.args.self.now.setting.program.now.gang) x.ranges.items c.args.self.now.setting.instance) c.deref.ensures) ∙ c.if-on.true

pub other_round-requires-clause-on : goal.other_round-requires-clause-on
other_round-requires-clause-on c =
    sym (c.is_on-on.ensures ∙ ap (λ (x : Rounds). members_now (gang_width c.args.self.now.setting.program.now.gang) x.ranges.items c.args.self.now.setting.instance) c.deref.ensures) ∙ c.if-on.false
