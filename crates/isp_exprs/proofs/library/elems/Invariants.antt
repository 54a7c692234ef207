use Rattle.std.proofs.Common.{◌≡◌, map, take}
use Rattle.isp_exprs.specs.reader.Parts.{boxes_of}
use Rattle.isp_typed.specs.Typed.{elem_of}
use Rattle.isp_exprs.proofs.library.elems.Given as goal

abbrev pub invariant-loop-value : goal.invariant-loop-value
invariant-loop-value l = l.all.items ≡ map elem_of (boxes_of (take l.value-index l.values))
