use Rattle.std.proofs.Common.{◌≡◌, length}
use Rattle.isp_lanes_read.specs.Rows.{rows_of}
use Rattle.isp_lanes_forms.specs.reader.Lists.{FirstAllowed}
use Rattle.isp_lanes_forms.proofs.told.line_forms.Given as goal

-- those so far
abbrev pub invariant-loop-pc : goal.invariant-loop-pc
invariant-loop-pc l = (length l.forms.items ≡ l.pc) × FirstAllowed (rows_of l.tables) l.function l.pc l.instrs l.forms.items
