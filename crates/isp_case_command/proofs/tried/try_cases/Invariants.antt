use Rattle.std.proofs.Common.{◌≡◌, ◌++◌, ℕ, List, drop, map}
use Rattle.std.specs.Prelude.{All}
use Rattle.isp_runs.specs.Compilation.{IsCompilation}
use Rattle.isp_case_command.specs.Testing.{IsTried, beside, place_of}
use Rattle.isp_case_command.proofs.tried.try_cases.Given as goal

abbrev pub invariant-loop-case : goal.invariant-loop-case
invariant-loop-case l = record {
  order : map place_of l.tried.items ++ map (beside l.kernel.gang) (drop l.case-index l.cases) ≡ map place_of l.initial.tried.items ++ map (beside l.kernel.gang) l.cases;
  tried : (text : List ℕ) → IsCompilation l.kernel.gang text l.kernel.image → All (IsTried text l.budget) l.initial.tried.items → All (IsTried text l.budget) l.tried.items;
}
