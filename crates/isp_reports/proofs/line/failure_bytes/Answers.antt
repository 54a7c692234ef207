use Rattle.std.proofs.Common.{Some, ap, subst, ◌∙◌}
use Rattle.isp_engine.specs.Failures.{failure_line}
use Rattle.isp_engine.specs.Told.{Told}
use Rattle.isp_reports.specs.Lines.{Written, padded}
use Rattle.isp_reports.proofs.Lines.{told_line}
use Rattle.isp_reports.proofs.line.failure_bytes.Goals as goal

pub returns : goal.returns
returns c =
    let line = failure_line c.args.failure.now in
    let now = c.tell_line.new.out in
    let told = subst (λ (w : Written). Told line (Some w.text) (Some now.text) now.failed) c.new-line.ensures c.tell_line.ensures in
    c.into_bytes.ensures.bytes ∙ ap padded (told_line line now.text now.failed told c.into_bytes.ensures.short c.into_bytes.ensures.full)
