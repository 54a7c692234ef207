use Rattle.std.proofs.Common.{◌≡◌, ◌++◌, drop, map}
use Rattle.isp_asm.specs.Spelling.{local_line, lines_text}
use Rattle.isp_asm.proofs.page.Page.locals.Given as goal

-- what is written, and what the rest will add
abbrev pub invariant-loop-local : goal.invariant-loop-local
invariant-loop-local l = l.self ++ lines_text (map local_line (drop l.local-index l.locals)) ≡ l.initial.self ++ lines_text (map local_line l.locals)
