use Rattle.std.proofs.Common.{◌≡◌, map}
use Rattle.isp_typed.specs.Views.{exprs_of}
use Rattle.isp_exprs.proofs.LibraryParts.{as_part}
use Rattle.isp_exprs.proofs.library.as_parts.Given as goal

abbrev pub invariant-loop-part : goal.invariant-loop-part
invariant-loop-part l = exprs_of l.all.items ≡ map (as_part l.worked) l.yielded
