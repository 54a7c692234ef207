use Rattle.std.proofs.Common.{◌≡◌, ◌++◌, true, length}
use Rattle.std.specs.List.{list_all}
use Rattle.isp_code.specs.Writable.{is_byte}
use Rattle.isp_asm.specs.Forms.{is_hex}
use Rattle.isp_asm.specs.Words.{hex_word}
use Rattle.isp_asm.proofs.words.hex.Given as goal

-- what is read and what is left spell the word, and the rest decides
abbrev pub invariant-loop-rest : goal.invariant-loop-rest
invariant-loop-rest l = record {
  spelled : hex_word l.bytes.items ++ l.rest ≡ l.word;
  bytes : list_all is_byte l.bytes.items ≡ true;
  same : is_hex l.word ≡ is_hex l.rest;
}

abbrev pub decreases-loop-rest : goal.decreases-loop-rest
decreases-loop-rest l = length l.rest
