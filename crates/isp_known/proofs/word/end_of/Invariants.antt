use Rattle.std.proofs.Common.{◌≡◌, ◌≤◌, ◌<◌, ◌-◌, ℕ, true, get_or, length}
use Rattle.isp_lex.specs.Bytes.{is_word_byte}
use Rattle.isp_known.proofs.word.end_of.Given as goal

abbrev pub invariant-loop-end : goal.invariant-loop-end
invariant-loop-end l = (l.at ≤ l.end) × (l.end ≤ length l.text) × ((k : ℕ) → l.at ≤ k → k < l.end → is_word_byte (get_or l.text k 0) ≡ true)

abbrev pub decreases-loop-end : goal.decreases-loop-end
decreases-loop-end l = length l.initial.text - l.end
