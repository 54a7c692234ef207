use Rattle.std.proofs.Common.{◌≡◌, ◌++◌, drop}
use Rattle.isp_typed.specs.Typed.{t_stmts}
use Rattle.isp_typed.specs.Views.{stmts_of}
use Rattle.isp_known.specs.Notes.{stmts_notes}
use Rattle.isp_known.proofs.stmt.+stmt.Given as goal

abbrev pub invariant-block-loop-s : goal.invariant-block-loop-s
invariant-block-loop-s l =
    l.found.items ++ stmts_notes l.function (t_stmts (stmts_of (drop l.s-index l.s-items)))
    ≡ l.initial.found.items ++ stmts_notes l.function (t_stmts (stmts_of l.s-items))
