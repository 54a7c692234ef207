use Rattle.std.proofs.Common.{◌≡◌, ◌++◌, drop, map}
use Rattle.isp_asm.specs.Spelling.{lines_text, text_line}
use Rattle.isp_asm.proofs.page.Page.texts.Given as goal

-- what is written, and what the rest will add
abbrev pub invariant-loop-number : goal.invariant-loop-number
invariant-loop-number l = l.self ++ lines_text (map text_line (drop l.number l.code.texts)) ≡ l.initial.self ++ lines_text (map text_line l.code.texts)
