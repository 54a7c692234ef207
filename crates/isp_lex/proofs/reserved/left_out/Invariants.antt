use Rattle.std.proofs.Common.{◌≡◌, drop}
use Rattle.isp_lex.specs.reader.Words.{left_in}
use Rattle.isp_lex.proofs.reserved.left_out.Given as goal

abbrev pub invariant-loop-spelling : goal.invariant-loop-spelling
invariant-loop-spelling l = left_in (drop l.spelling-index l.words) l.word ≡ left_in l.words l.word
