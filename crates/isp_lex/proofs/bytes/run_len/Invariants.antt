use Rattle.std.proofs.Common.{◌≡◌, ◌+◌, ◌-◌, ◌≤◌, length, drop}
use Rattle.isp_lex.specs.Bytes.{is_word_byte}
use Rattle.isp_lex.specs.reader.Runs.{run}
use Rattle.isp_lex.proofs.bytes.run_len.Given as goal

abbrev pub invariant-loop-len : goal.invariant-loop-len
invariant-loop-len l = (l.len ≤ length l.text) × (l.len + run is_word_byte (drop l.len l.text) ≡ run is_word_byte l.text)

abbrev pub decreases-loop-len : goal.decreases-loop-len
decreases-loop-len l = length l.text - l.len
