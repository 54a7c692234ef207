use Rattle.std.proofs.Common.{◌≡◌, ◌++◌, drop, map}
use Rattle.isp_asm.specs.Spelling.{param_line, lines_text}
use Rattle.isp_asm.proofs.page.Page.params.Given as goal

-- what is written, and what the rest will add
abbrev pub invariant-loop-param : goal.invariant-loop-param
invariant-loop-param l = l.self ++ lines_text (map param_line (drop l.param-index l.params)) ≡ l.initial.self ++ lines_text (map param_line l.params)
