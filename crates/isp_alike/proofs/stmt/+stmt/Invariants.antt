use Rattle.std.proofs.Common.{◌≡◌, drop}
use Rattle.isp_typed.specs.Typed.{t_stmts}
use Rattle.isp_typed.specs.Views.{stmts_of}
use Rattle.isp_alike.specs.Bare.{bare_stmts}
use Rattle.isp_alike.proofs.stmt.+stmt.Given as goal

abbrev pub invariant-same_block-loop-s : goal.invariant-same_block-loop-s
invariant-same_block-loop-s l =
    bare_stmts (t_stmts (stmts_of (drop l.s-index l.s-items))) ≡ bare_stmts (t_stmts (stmts_of l.rest))
    → bare_stmts (t_stmts (stmts_of l.s-items)) ≡ bare_stmts (t_stmts (stmts_of l.initial.rest))
