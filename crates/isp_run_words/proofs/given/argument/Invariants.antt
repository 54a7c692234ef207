use Rattle.std.proofs.Common.{◌≡◌, drop}
use Rattle.isp_run_words.specs.Giving.{argument_by}
use Rattle.isp_run_words.proofs.given.argument.Given as goal

abbrev pub invariant-loop-one : goal.invariant-loop-one
invariant-loop-one l = argument_by l.number l.parameter l.given ≡ argument_by l.number l.parameter (drop l.one-index l.given)
