use Rattle.std.proofs.Common.{◌≡◌, drop}
use Rattle.isp_asm.specs.Heads.{first_spelled}
use Rattle.isp_asm.proofs.head.first_spelled.Given as goal

-- none of those before is spelled so
abbrev pub invariant-loop-head : goal.invariant-loop-head
invariant-loop-head l = first_spelled (drop l.head-index l.among) l.word ≡ first_spelled l.among l.word
