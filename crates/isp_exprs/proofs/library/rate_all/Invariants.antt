use Rattle.std.proofs.Common.{◌≡◌, drop}
use Rattle.isp_exprs.specs.reader.Parts.{boxes_of}
use Rattle.isp_typed.specs.Typed.{rate_or}
use Rattle.isp_exprs.specs.LibraryCalls.{rate_all}
use Rattle.isp_exprs.proofs.library.rate_all.Given as goal

abbrev pub invariant-loop-value : goal.invariant-loop-value
invariant-loop-value l = rate_or l.rate (rate_all (boxes_of (drop l.value-index l.values))) ≡ rate_all (boxes_of l.values)
