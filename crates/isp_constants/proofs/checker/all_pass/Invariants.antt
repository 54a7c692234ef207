use Rattle.std.proofs.Common.{◌≡◌, drop, map}
use Rattle.isp_code.specs.Listing.{routine_of}
use Rattle.isp_forms.specs.Tables.{lists_of}
use Rattle.isp_constants.specs.reader.Passing.{functions_pass, lists_in}
use Rattle.isp_constants.proofs.checker.all_pass.Given as goal

abbrev pub invariant-loop-f : goal.invariant-loop-f
invariant-loop-f l =
    functions_pass (lists_in l.constants) (lists_of l.forms) 0 l.code.routines ≡ functions_pass (lists_in l.constants) (lists_of l.forms) l.f (map routine_of (drop l.f l.functions))
