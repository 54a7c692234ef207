use Rattle.std.proofs.Common.{◌≡◌, ◌≤◌, ◌<◌, ℕ, true, get_or}
use Rattle.isp_lex.specs.Bytes.{is_word_byte}
use Rattle.isp_known.proofs.word.start_of.Given as goal

abbrev pub invariant-loop-start : goal.invariant-loop-start
invariant-loop-start l = (l.start ≤ l.at) × ((k : ℕ) → l.start ≤ k → k < l.at → is_word_byte (get_or l.text k 0) ≡ true)

abbrev pub decreases-loop-start : goal.decreases-loop-start
decreases-loop-start l = l.start
