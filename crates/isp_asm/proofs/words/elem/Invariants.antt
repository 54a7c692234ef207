use Rattle.std.proofs.Common.{◌≡◌, drop, map, bytes_eq}
use Rattle.std.specs.List.{list_any}
use Rattle.isp_asm.specs.Words.{type_word}
use Rattle.isp_asm.proofs.words.elem.Given as goal

abbrev pub invariant-loop-elem : goal.invariant-loop-elem
invariant-loop-elem l = list_any (bytes_eq l.word) (map type_word (drop l.elem-index l.elem-items)) ≡ list_any (bytes_eq l.word) (map type_word l.elem-items)
