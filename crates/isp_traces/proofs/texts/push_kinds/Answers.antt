use Rattle.isp_traces.specs.Texts.{kind_names}
use Rattle.isp_traces.proofs.Members.{members_more}
use Rattle.isp_traces.proofs.texts.push_kinds.Goals as goal

pub loop-number-preserved : goal.loop-number-preserved
loop-number-preserved c =
    members_more c.args.width c.loop-number.number kind_names c.args.tallies.now _ c.tally_at.result c.args.text.now.items c.loop-number.text.items c.push_member.new.text.items
    c.loop-number.invariant c.in_ok-push_member.ensures c.kind_name.ensures c.tally_at.ensures
