use Rattle.std.proofs.Common.{rules, ◌≡◌, ◌∙◌, map}
use Rattle.isp_code.specs.Listing.{routine_of}
use Rattle.isp_traces.specs.Texts.{routine_name}
use Rattle.isp_traces.proofs.Members.{members_more, name_at}
use Rattle.isp_traces.proofs.texts.push_functions.Goals as goal

pub loop-number-preserved : goal.loop-number-preserved
loop-number-preserved c =
    let fs = c.args.functions.now in
    let f = c.index-functions-number.result in
    let name : c.as_str-name.result.now ≡ f.name = search rules in
    members_more c.args.width c.loop-number.number (map routine_name (map routine_of fs)) c.args.tallies.now _ c.tally_at.result c.args.text.now.items c.loop-number.text.items c.push_member.new.text.items
    c.loop-number.invariant c.in_ok-push_member.ensures (name ∙ name_at fs c.loop-number.number f c.loop-number-test.true c.index-functions-number.is) c.tally_at.ensures
