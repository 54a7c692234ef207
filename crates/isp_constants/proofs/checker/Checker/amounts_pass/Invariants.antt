use Rattle.std.proofs.Common.{◌≡◌, drop}
use Rattle.isp_code.specs.Listing.{routine_of}
use Rattle.isp_constants.specs.reader.Passing.{amounts_pass}
use Rattle.isp_constants.proofs.checker.Checker.amounts_pass.Given as goal

abbrev pub invariant-loop-pc : goal.invariant-loop-pc
invariant-loop-pc l =
    amounts_pass l.self.facts.now l.self.forms.now (routine_of l.self.function.now) 0 l.self.function.now.code.items ≡ amounts_pass l.self.facts.now l.self.forms.now (routine_of l.self.function.now) l.pc (drop l.pc l.self.function.now.code.items)
