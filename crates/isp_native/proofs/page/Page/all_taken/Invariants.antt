use Rattle.std.proofs.Common.{◌≡◌, ◌++◌, drop}
use Rattle.std.specs.List.{flat_map}
use Rattle.isp_native.specs.Text.{entry_param}
use Rattle.isp_native.proofs.page.Page.all_taken.Given as goal

-- what is written, and what the rest will add
abbrev pub invariant-loop-param : goal.invariant-loop-param
invariant-loop-param l = l.self ++ flat_map entry_param (drop l.param-index l.params) ≡ l.initial.self ++ flat_map entry_param l.params
