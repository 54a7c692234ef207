use Rattle.std.proofs.Common.{◌≡◌, drop}
use Rattle.std.specs.List.{list_all}
use Rattle.isp_code.specs.Writable.{is_word_byte}
use Rattle.isp_asm.proofs.words.are_word_bytes.Given as goal

abbrev pub invariant-loop-byte : goal.invariant-loop-byte
invariant-loop-byte l = list_all is_word_byte (drop l.byte-index l.bytes) ≡ list_all is_word_byte l.bytes
