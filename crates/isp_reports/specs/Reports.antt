-- What a call says of itself: its report and its status.
use Rattle.std.specs.Prelude.{◌≡◌, ℕ, []}
use Rattle.isp_reports.specs.Lines.{line_bytes}
use Rattle.isp_reports.specs.Refusals.{line_of, nothing, status_of, why_of}
use Rattle.isp_reports.specs.declared.refusal.Refusal.{Refusal}
use Rattle.isp_reports.specs.declared.report.Report.{Report}

-- all went well: so many bytes were written, and this was returned
abbrev pub Done : ℕ → ℕ → Report → ℕ → Type 0
Done used returned r status = (status ≡ 0) × (r ≡ record { used = used; result = returned; why = nothing; line = line_bytes [] })

-- it did not
abbrev pub Refuses : Refusal → ℕ → Report → ℕ → Type 0
Refuses f used r status = (status ≡ status_of f) × (r ≡ record { used = used; result = 0; why = why_of f; line = line_bytes (line_of f) })
