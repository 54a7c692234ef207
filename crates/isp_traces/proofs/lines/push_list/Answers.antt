use Rattle.std.proofs.Common.{rules, ◌≡◌, ap, ◌∙◌, ℕ, ◌++◌, arith}
use Rattle.std.specs.Prelude.{codes}
use Rattle.std.proofs.lemmas.Result.{on_ok_weaker}
use Rattle.isp_base.specs.Prints.{items_text}
use Rattle.isp_base.specs.Types.{gang_width}
use Rattle.isp_code.specs.Listing.{Listing}
use Rattle.isp_machine.specs.Seen.{seen_conf}
use Rattle.isp_traces.specs.Steps.{lanes_held}
use Rattle.isp_traces.proofs.Items.{items_more, list_closed}
use Rattle.isp_traces.proofs.Words.{extended}
use Rattle.isp_traces.proofs.lines.push_list.Goals as goal

pub loop-lane-preserved : goal.loop-lane-preserved
loop-lane-preserved g c =
    let seen = seen_conf c.args.machine.now in
    let is = c.value.ensures ∙ ap (λ (l : Listing). lanes_held l seen c.args.written c.loop-lane.lane) c.requires in
    items_more c.args.elem c.loop-lane.lane (lanes_held c.args.code.now seen c.args.written) c.value.result (c.args.text.now.items ++ codes "[") c.loop-lane.text.items c.push_comma.new.out.items
    c.push_item.new.out.items c.loop-lane.invariant c.in_ok-push_comma.ensures c.in_ok-push_item.ensures is

pub returns : goal.returns
returns g c =
    let old = c.args.text.now.items in
    let x = lanes_held c.args.code.now (seen_conf c.args.machine.now) c.args.written in
    let text = c.loop-lane.text.items in
    let last = c.extend_from_slice-2.new.self.items in
    let width = gang_width c.args.code.now.gang in
    let wide : c.width-lane-end.result ≡ width = search rules in
    let all : c.loop-lane.lane ≡ width = omega (arith, wide) in
    let items = c.loop-lane.invariant ∙ ap (λ (k : ℕ). (old ++ codes "[") ++ items_text c.args.elem k x) all in
    on_ok_weaker c.extend_from_slice-2.result
    (λ (is : last ≡ text ++ codes "]"). list_closed old (items_text c.args.elem width x) text last items is)
    (extended c.extend_from_slice-2.result last (text ++ codes "]") text c.extend_from_slice-2.ensures.items)
