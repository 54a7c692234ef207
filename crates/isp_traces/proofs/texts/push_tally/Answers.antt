use Rattle.std.proofs.Common.{rules, ◌≡◌, ap, ◌∙◌, ℕ, ◌++◌}
use Rattle.std.proofs.lemmas.Result.{on_ok_weaker}
use Rattle.std.specs.Fmt.{decimal}
use Rattle.isp_traces.proofs.Pushed.{tally_pushed}
use Rattle.isp_traces.proofs.texts.push_tally.Goals as goal

pub returns : goal.returns
returns c =
    let first : c.from.result ≡ c.args.tally.instructions = search rules in
    let second : c.from-2.result ≡ c.args.tally.masked = search rules in
    let t1 = c.extend_from_slice.new.self.items in
    let t2 = c.push_number.new.text.items in
    let t3 = c.extend_from_slice-2.new.self.items in
    let t4 = c.push_number-2.new.text.items in
    let t5 = c.extend_from_slice-3.new.self.items in
    let t6 = c.push_number-3.new.text.items in
    let t7 = c.extend_from_slice-4.new.self.items in
    let t8 = c.push_number-4.new.text.items in
    on_ok_weaker c.push_number-4.result
    (λ (is : t8 ≡ t7 ++ decimal c.lanes.result).
    tally_pushed c.args.width c.args.tally c.args.text.now.items t1 t2 t3 t4 t5 t6 t7 t8
    c.in_ok-extend_from_slice.ensures.items
    (c.in_ok-push_number.ensures ∙ ap (λ (n : ℕ). t1 ++ decimal n) first)
    c.in_ok-extend_from_slice-2.ensures.items
    (c.in_ok-push_number-2.ensures ∙ ap (λ (n : ℕ). t3 ++ decimal n) second)
    c.in_ok-extend_from_slice-3.ensures.items
    c.in_ok-push_number-3.ensures
    c.in_ok-extend_from_slice-4.ensures.items
    (is ∙ ap (λ (n : ℕ). t7 ++ decimal n) c.lanes.ensures))
    c.push_number-4.ensures
