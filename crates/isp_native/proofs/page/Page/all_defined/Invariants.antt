use Rattle.std.proofs.Common.{◌≡◌, ◌++◌, drop, map}
use Rattle.isp_code.specs.Listing.{routine_of}
use Rattle.isp_native.specs.reader.Forms.{forms_by}
use Rattle.isp_native.specs.Text.{numbered, defined}
use Rattle.isp_native.proofs.page.Page.all_defined.Given as goal

-- what is written, and what the rest will add
abbrev pub invariant-loop-number : goal.invariant-loop-number
invariant-loop-number l = l.self ++ numbered (defined (forms_by l.tables)) l.number (map routine_of (drop l.number l.functions)) ≡ l.initial.self ++ numbered (defined (forms_by l.tables)) 0 (map routine_of l.functions)
