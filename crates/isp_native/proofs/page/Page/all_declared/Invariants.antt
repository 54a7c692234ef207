use Rattle.std.proofs.Common.{◌≡◌, ◌++◌, drop, map}
use Rattle.isp_code.specs.Listing.{routine_of}
use Rattle.isp_native.specs.Text.{numbered, declared}
use Rattle.isp_native.proofs.page.Page.all_declared.Given as goal

-- what is written, and what the rest will add
abbrev pub invariant-loop-number : goal.invariant-loop-number
invariant-loop-number l = l.self ++ numbered declared l.number (map routine_of (drop l.number l.functions)) ≡ l.initial.self ++ numbered declared 0 (map routine_of l.functions)
