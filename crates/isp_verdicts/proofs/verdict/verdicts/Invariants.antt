use Rattle.std.specs.Prelude.{string_bytes}
use Rattle.isp_typed.specs.Views.{program_of}
use Rattle.isp_verdicts.proofs.Lines.{SoFar}
use Rattle.isp_verdicts.proofs.verdict.verdicts.Given as goal

abbrev pub invariant-loop-k : goal.invariant-loop-k
invariant-loop-k l = SoFar (program_of l.checked) l.k (string_bytes l.text)
