use Rattle.std.proofs.Common.{◌≡◌, drop}
use Rattle.isp_typed.specs.Typed.{t_stmts}
use Rattle.isp_typed.specs.Verdicts.{first_of}
use Rattle.isp_typed.specs.Views.{functions_of, stmts_of}
use Rattle.isp_rates.specs.reader.Faults.{stmts_fault}
use Rattle.isp_rates.proofs.stmt.+stmt.Given as goal

abbrev pub invariant-block-loop-s : goal.invariant-block-loop-s
invariant-block-loop-s l =
    first_of l.seen (stmts_fault (functions_of l.functions) l.answer l.within (t_stmts (stmts_of (drop l.s-index l.s-items))))
    ≡ stmts_fault (functions_of l.functions) l.answer l.within (t_stmts (stmts_of l.s-items))
