use Rattle.std.proofs.Common.{◌≡◌, ◌++◌, drop, map}
use Rattle.std.specs.Prelude.{All}
use Rattle.isp_case_command.specs.Testing.{IsTried, place_of, places}
use Rattle.isp_case_command.proofs.tried.try_gangs.Given as goal

abbrev pub invariant-loop-gang : goal.invariant-loop-gang
invariant-loop-gang l = record {
  order : map place_of l.tried.items ++ places (drop l.gang-index l.gangs) l.cases ≡ places l.gangs l.cases;
  tried : All (IsTried l.text l.budget) l.tried.items;
}
