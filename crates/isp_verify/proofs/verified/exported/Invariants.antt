use Rattle.std.proofs.Common.{◌<◌, ℕ}
use Rattle.isp_code.specs.Entries.{IsExport}
use Rattle.isp_code.specs.Listing.{Routine}
use Rattle.isp_verify.proofs.verified.exported.Given as goal

abbrev pub invariant-loop-number : goal.invariant-loop-number
invariant-loop-number l = (f : ℕ) (h : Routine) → f < l.number → IsExport l.code l.name f h → ⊥
