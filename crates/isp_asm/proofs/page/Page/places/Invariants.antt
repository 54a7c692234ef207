use Rattle.std.proofs.Common.{◌≡◌, ◌++◌, drop, map}
use Rattle.isp_asm.specs.Spelling.{place_line, lines_text}
use Rattle.isp_asm.proofs.page.Page.places.Given as goal

-- what is written, and what the rest will add
abbrev pub invariant-loop-place : goal.invariant-loop-place
invariant-loop-place l = l.self ++ lines_text (map place_line (drop l.place-index l.places)) ≡ l.initial.self ++ lines_text (map place_line l.places)
