use Rattle.std.proofs.Common.{◌≡◌, drop}
use Rattle.std.specs.List.{list_all}
use Rattle.isp_code.specs.Listing.{routine_of}
use Rattle.isp_constants.specs.reader.Passing.{fact_passes}
use Rattle.isp_constants.proofs.checker.Checker.facts_pass.Given as goal

abbrev pub invariant-loop-x : goal.invariant-loop-x
invariant-loop-x l =
    list_all (fact_passes l.self.facts.now l.self.forms.now (routine_of l.self.function.now)) l.self.facts.now ≡ list_all (fact_passes l.self.facts.now l.self.forms.now (routine_of l.self.function.now)) (drop l.x-index l.self.facts.now)
