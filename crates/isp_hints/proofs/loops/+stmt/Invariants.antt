use Rattle.std.proofs.Common.{◌≡◌, ◌++◌, drop}
use Rattle.isp_typed.specs.Typed.{t_stmts}
use Rattle.isp_typed.specs.Views.{stmts_of}
use Rattle.isp_hints.specs.Loops.{stmts_hints}
use Rattle.isp_hints.proofs.loops.+stmt.Given as goal

abbrev pub invariant-block-loop-s : goal.invariant-block-loop-s
invariant-block-loop-s l =
    l.found.items ++ stmts_hints l.gang (t_stmts (stmts_of (drop l.s-index l.s-items))) ≡ l.initial.found.items ++ stmts_hints l.gang (t_stmts (stmts_of l.s-items))
