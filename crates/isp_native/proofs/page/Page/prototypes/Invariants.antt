use Rattle.std.proofs.Common.{◌≡◌, ◌++◌, drop, map}
use Rattle.std.specs.List.{flat_map}
use Rattle.isp_code.specs.Listing.{routine_of}
use Rattle.isp_native.specs.Text.{prototype_line}
use Rattle.isp_native.proofs.page.Page.prototypes.Given as goal

-- what is written, and what the rest will add
abbrev pub invariant-loop-function : goal.invariant-loop-function
invariant-loop-function l = l.self ++ flat_map prototype_line (map routine_of (drop l.function-index l.functions)) ≡ l.initial.self ++ flat_map prototype_line (map routine_of l.functions)
