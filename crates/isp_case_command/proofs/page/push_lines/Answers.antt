use Rattle.std.proofs.Common.{ℕ, List, ◌++◌, string_bytes, ap, ◌∙◌}
use Rattle.isp_case_command.proofs.Lines.{lines_next}
use Rattle.isp_case_command.proofs.page.push_lines.Goals as goal

pub loop-one-preserved : goal.loop-one-preserved
loop-one-preserved c =
    let old = string_bytes c.loop-one.text in
    let line = c.as_str.ensures.value ∙ c.in_ok-lines.ensures in
    let grown = c.in_ok-push_str.ensures.bytes ∙ ap (λ (l : List ℕ). old ++ l) line in
    lines_next c.args.tried.now c.loop-one.one-index c.one-item.result c.loop-one-test.true c.one-item.is old _ _ grown c.loop-one.invariant
