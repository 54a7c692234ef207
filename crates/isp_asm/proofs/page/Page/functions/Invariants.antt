use Rattle.std.proofs.Common.{◌≡◌, ◌++◌, drop, map}
use Rattle.std.specs.List.{flat_map}
use Rattle.isp_code.specs.Listing.{routine_of}
use Rattle.isp_asm.specs.Spelling.{lines_text, routine_lines}
use Rattle.isp_asm.proofs.page.Page.functions.Given as goal

-- what is written, and what the rest will add
abbrev pub invariant-loop-function : goal.invariant-loop-function
invariant-loop-function l = l.self ++ lines_text (flat_map routine_lines (map routine_of (drop l.function-index l.functions))) ≡ l.initial.self ++ lines_text (flat_map routine_lines (map routine_of l.functions))
