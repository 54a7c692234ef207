use Rattle.std.proofs.Common.{◌≡◌, drop}
use Rattle.std.specs.Prelude.{◌||◌}
use Rattle.isp_typed.specs.Typed.{t_stmts}
use Rattle.isp_typed.specs.Views.{stmts_of}
use Rattle.isp_independence.specs.Independent.{leaves_early_stmts}
use Rattle.isp_independence.proofs.early.+early.Given as goal

abbrev pub invariant-leaves_block_early-loop-s : goal.invariant-leaves_block_early-loop-s
invariant-leaves_block_early-loop-s l = (l.found || leaves_early_stmts l.control (t_stmts (stmts_of (drop l.s-index l.s-items)))) ≡ leaves_early_stmts l.control (t_stmts (stmts_of l.s-items))
