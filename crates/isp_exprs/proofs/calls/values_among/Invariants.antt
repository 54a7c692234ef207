use Rattle.std.proofs.Common.{◌≡◌}
use Rattle.isp_exprs.specs.LibraryCalls.{values_among}
use Rattle.isp_exprs.specs.reader.Parts.{boxes_of, list_passed}
use Rattle.isp_exprs.proofs.calls.values_among.Given as goal

abbrev pub invariant-loop-part : goal.invariant-loop-part
invariant-loop-part l = boxes_of l.values.items ≡ values_among (list_passed l.yielded)
