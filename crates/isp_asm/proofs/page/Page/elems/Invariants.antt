use Rattle.std.proofs.Common.{◌≡◌, ◌++◌, drop, map}
use Rattle.std.specs.List.{flat_map}
use Rattle.isp_asm.specs.Spelling.{spaced}
use Rattle.isp_asm.specs.Words.{type_word}
use Rattle.isp_asm.proofs.page.Page.elems.Given as goal

-- what is written, and what the rest will add
abbrev pub invariant-loop-elem : goal.invariant-loop-elem
invariant-loop-elem l = l.self ++ flat_map spaced (map type_word (drop l.elem-index l.elems)) ≡ l.initial.self ++ flat_map spaced (map type_word (l.elems))
