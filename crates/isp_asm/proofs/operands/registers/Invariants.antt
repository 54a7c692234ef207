use Rattle.std.proofs.Common.{◌≡◌, ◌++◌, true, drop, length, map, replicate}
use Rattle.std.specs.List.{list_all}
use Rattle.isp_code.specs.Writable.{register_fits}
use Rattle.isp_asm.specs.Faults.{words_fault}
use Rattle.isp_asm.specs.Forms.{register}
use Rattle.isp_asm.specs.Words.{register_word}
use Rattle.isp_asm.specs.reader.Reading.{words_of}
use Rattle.isp_asm.proofs.operands.registers.Given as goal

-- what is read and what is left spell the words, and the rest decides
abbrev pub invariant-loop-word : goal.invariant-loop-word
invariant-loop-word l = record {
  spelled : map register_word l.registers.items ++ words_of (drop l.word-index l.words) ≡ words_of l.words;
  fits : list_all register_fits l.registers.items ≡ true;
  same : words_fault (replicate (length (drop l.word-index l.words)) register) (words_of (drop l.word-index l.words)) ≡ words_fault (replicate (length l.words) register) (words_of l.words);
}
