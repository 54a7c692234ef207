use Rattle.std.proofs.Common.{◌≡◌, ◌++◌, drop}
use Rattle.isp_typed.specs.Typed.{t_stmts}
use Rattle.isp_typed.specs.Views.{stmts_of}
use Rattle.isp_independence.specs.Reaches.{stmts_calls}
use Rattle.isp_rates.proofs.calls.+stmt_calls.Given as goal

abbrev pub invariant-block-loop-s : goal.invariant-block-loop-s
invariant-block-loop-s l = l.found.items ++ stmts_calls (t_stmts (stmts_of (drop l.s-index l.s-items))) ≡ l.initial.found.items ++ stmts_calls (t_stmts (stmts_of l.s-items))
