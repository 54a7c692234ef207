use Rattle.std.proofs.Common.{ap, ◌∙◌}
use Rattle.isp_code_commands.specs.Runs.{answer_line}
use Rattle.isp_code_commands.proofs.Pages.{paged}
use Rattle.isp_code_commands.proofs.runs.counted.Goals as goal

pub returns-clause-ok : goal.returns-clause-ok
returns-clause-ok c =
    let b = c.in_ok-signature.ensures.ok in
    let run = c.in_ok-run.run' in
    let line = c.as_bytes.ensures.value ∙ c.in_ok-line.ensures ∙ ap (λ params. answer_line run.stop params run.arrays.items run.result) b.1 in
    let page = paged _ _ _ _ _ _ _ _ _ _ c.in_ok-extend_from_slice.ensures.items c.in_ok-extend_from_slice-2.ensures.items c.in_ok-extend_from_slice-3.ensures.items
    line (c.as_slice.ensures.value ∙ c.in_ok-counts.ensures) (c.as_slice-2.ensures.value ∙ c.in_ok-lines.ensures) in
    record { arguments = c.in_ok-signature.bound.arguments.items; binds = b.0; counted = run; runs = c.in_ok-run.ensures.counted; grouping = c.in_ok-grouping.grouping; lines = c.in_ok-grouping.ensures; grouped = c.in_ok-run.ensures.grouped; page_is = page; ends = c.end_of.ensures }
