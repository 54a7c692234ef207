use Rattle.std.proofs.Common.{◌≡◌, drop}
use Rattle.std.specs.List.{list_all}
use Rattle.isp_asm.specs.Faults.{is_shown}
use Rattle.isp_asm.proofs.words.are_shown.Given as goal

abbrev pub invariant-loop-byte : goal.invariant-loop-byte
invariant-loop-byte l = list_all is_shown (drop l.byte-index l.bytes) ≡ list_all is_shown l.bytes
