use Rattle.std.proofs.Common.{◌≡◌, ◌++◌, drop, length, map, replicate}
use Rattle.isp_asm.specs.Faults.{words_fault}
use Rattle.isp_asm.specs.Forms.{a_type}
use Rattle.isp_asm.specs.Words.{type_word}
use Rattle.isp_asm.specs.reader.Reading.{words_of}
use Rattle.isp_asm.proofs.operands.elems.Given as goal

-- what is read and what is left spell the words, and the rest decides
abbrev pub invariant-loop-word : goal.invariant-loop-word
invariant-loop-word l = record {
  spelled : map type_word l.elems.items ++ words_of (drop l.word-index l.words) ≡ words_of l.words;
  same : words_fault (replicate (length (drop l.word-index l.words)) a_type) (words_of (drop l.word-index l.words)) ≡ words_fault (replicate (length l.words) a_type) (words_of l.words);
}
