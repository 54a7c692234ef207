use Rattle.std.proofs.Common.{◌≡◌, drop}
use Rattle.std.specs.List.{list_all}
use Rattle.isp_asm.specs.Faults.{is_plain}
use Rattle.isp_asm.specs.reader.Reading.{words_of}
use Rattle.isp_asm.proofs.words.are_plain.Given as goal

abbrev pub invariant-loop-word : goal.invariant-loop-word
invariant-loop-word l = list_all is_plain (words_of (drop l.word-index l.words)) ≡ list_all is_plain (words_of l.words)
