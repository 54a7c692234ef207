use Rattle.std.proofs.Common.{◌≡◌, ◌||◌, drop}
use Rattle.std.specs.Prelude.{ℕ, List, is_some}
use Rattle.std.specs.BTreeMap.{get_by_text}
use Rattle.isp_bind.specs.Binding.{is_parameter}
use Rattle.isp_bind.proofs.arguments.names.Given as goal

abbrev pub invariant-loop-param : goal.invariant-loop-param
invariant-loop-param l = (w : List ℕ) → (is_some (get_by_text l.names w) || is_parameter (drop l.param-index l.params) w) ≡ is_parameter l.params w
