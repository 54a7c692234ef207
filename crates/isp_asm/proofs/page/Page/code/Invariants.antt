use Rattle.std.proofs.Common.{◌≡◌, ◌++◌, drop, map}
use Rattle.isp_asm.specs.Spelling.{instr_line, lines_text}
use Rattle.isp_asm.proofs.page.Page.code.Given as goal

-- what is written, and what the rest will add
abbrev pub invariant-loop-instr : goal.invariant-loop-instr
invariant-loop-instr l = l.self ++ lines_text (map instr_line (drop l.instr-index l.code)) ≡ l.initial.self ++ lines_text (map instr_line l.code)
