use Rattle.std.proofs.Common.{◌≡◌, ◌++◌, drop}
use Rattle.isp_typed.specs.Typed.{t_stmts}
use Rattle.isp_typed.specs.Views.{functions_of, stmts_of}
use Rattle.isp_breaches.specs.reader.Lists.{stmts_faults}
use Rattle.isp_breaches.specs.reader.Within.{within_of}
use Rattle.isp_breaches.proofs.stmt.+stmt.Given as goal

abbrev pub invariant-block-loop-s : goal.invariant-block-loop-s
invariant-block-loop-s l =
    l.found.items ++ stmts_faults (functions_of l.functions) l.answer (within_of l.within) (t_stmts (stmts_of (drop l.s-index l.s-items)))
    ≡ l.initial.found.items ++ stmts_faults (functions_of l.functions) l.answer (within_of l.within) (t_stmts (stmts_of l.s-items))
