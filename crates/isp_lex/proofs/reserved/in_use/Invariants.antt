use Rattle.std.proofs.Common.{◌≡◌, None, drop}
use Rattle.isp_lex.specs.reader.Words.{found_in}
use Rattle.isp_lex.proofs.reserved.in_use.Given as goal

abbrev pub invariant-loop-spelling : goal.invariant-loop-spelling
invariant-loop-spelling l = found_in (drop l.spelling-index l.words) None l.word ≡ found_in l.words None l.word
