use Rattle.std.proofs.Common.{◌≡◌}
use Rattle.std.specs.Prelude.{replicate}
use Rattle.isp_run_words.proofs.given.nothing.Given as goal

abbrev pub invariant-loop-done : goal.invariant-loop-done
invariant-loop-done l = l.array ≡ record { elem = l.fn.elem; bits = replicate l._done 0 }
