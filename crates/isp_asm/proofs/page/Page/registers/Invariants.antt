use Rattle.std.proofs.Common.{◌≡◌, ◌++◌, drop, map}
use Rattle.std.specs.List.{flat_map}
use Rattle.isp_asm.specs.Spelling.{spaced}
use Rattle.isp_asm.specs.Words.{register_word}
use Rattle.isp_asm.proofs.page.Page.registers.Given as goal

-- what is written, and what the rest will add
abbrev pub invariant-loop-register : goal.invariant-loop-register
invariant-loop-register l = l.self ++ flat_map spaced (map register_word (drop l.register-index l.registers)) ≡ l.initial.self ++ flat_map spaced (map register_word (l.registers))
