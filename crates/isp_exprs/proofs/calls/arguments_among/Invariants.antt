use Rattle.std.proofs.Common.{◌≡◌}
use Rattle.isp_typed.specs.Views.{arguments_of}
use Rattle.isp_exprs.specs.reader.Parts.{list_passed}
use Rattle.isp_exprs.proofs.PassedParts.{arguments_listed}
use Rattle.isp_exprs.proofs.calls.arguments_among.Given as goal

abbrev pub invariant-loop-part : goal.invariant-loop-part
invariant-loop-part l = arguments_of l.arguments.items ≡ arguments_listed (list_passed l.yielded)
