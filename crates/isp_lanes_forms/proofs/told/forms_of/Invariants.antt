use Rattle.std.proofs.Common.{◌≡◌, length, map}
use Rattle.isp_lanes_read.specs.Rows.{rows_of}
use Rattle.isp_lanes_forms.specs.reader.Lists.{FunctionsAllowed}
use Rattle.isp_lanes_forms.proofs.told.forms_of.Given as goal

-- those so far
abbrev pub invariant-loop-number : goal.invariant-loop-number
invariant-loop-number l = (length l.functions.items ≡ l.number) × FunctionsAllowed (rows_of l.tables) l.number l.code.routines (map (λ v. v.items) l.functions.items)
