use Rattle.std.proofs.Common.{rules, ◌≡◌, ap, ◌∙◌, ℕ, List, ◌++◌}
use Rattle.std.specs.Prelude.{codes}
use Rattle.std.proofs.lemmas.Result.{on_ok_weaker}
use Rattle.isp_traces.proofs.Pushed.{member_pushed}
use Rattle.isp_traces.proofs.Words.{extended}
use Rattle.isp_traces.proofs.texts.push_member.Goals as goal

pub returns : goal.returns
returns c =
    let name : c.as_bytes.result.now ≡ c.args.name.now = search rules in
    let t1 = c.push_comma.new.out.items in
    let t2 = c.extend_from_slice.new.self.items in
    let t3 = c.extend_from_slice-2.new.self.items in
    let t4 = c.extend_from_slice-3.new.self.items in
    let t5 = c.push_tally.new.text.items in
    let t6 = c.extend_from_slice-4.new.self.items in
    on_ok_weaker c.extend_from_slice-4.result
    (λ (is : t6 ≡ t5 ++ codes "}").
    member_pushed c.args.width c.args.number c.args.name.now c.args.tally c.args.text.now.items t1 t2 t3 t4 t5 t6
    c.in_ok-push_comma.ensures
    c.in_ok-extend_from_slice.ensures.items
    (c.in_ok-extend_from_slice-2.ensures.items ∙ ap (λ (t : List ℕ). t2 ++ t) name)
    c.in_ok-extend_from_slice-3.ensures.items
    c.in_ok-push_tally.ensures
    is)
    (extended c.extend_from_slice-4.result t6 (t5 ++ codes "}") t5 c.extend_from_slice-4.ensures.items)
