use Rattle.std.proofs.Common.{◌≡◌, drop}
use Rattle.isp_run_words.specs.Giving.{stray_from}
use Rattle.isp_run_words.proofs.given.stray.Given as goal

abbrev pub invariant-loop-word : goal.invariant-loop-word
invariant-loop-word l = stray_from l.params l.given 0 l.given ≡ stray_from l.params l.given l.word (drop l.word l.given)
