use Rattle.std.proofs.Common.{◌≡◌, ◌++◌, drop}
use Rattle.isp_asm.specs.Words.{hex_word}
use Rattle.isp_asm.proofs.page.Page.hex.Given as goal

-- what is written, and what the rest will add
abbrev pub invariant-loop-byte : goal.invariant-loop-byte
invariant-loop-byte l = l.self ++ hex_word (drop l.byte-index l.bytes) ≡ l.initial.self ++ hex_word (l.bytes)
