use Rattle.std.proofs.Common.{◌≡◌, drop}
use Rattle.std.specs.Prelude.{◌||◌}
use Rattle.isp_typed.specs.Typed.{t_stmts}
use Rattle.isp_typed.specs.Views.{stmts_of}
use Rattle.isp_independence.specs.Exits.{has_stmts}
use Rattle.isp_independence.proofs.exits.+has.Given as goal

abbrev pub invariant-has_in-loop-s : goal.invariant-has_in-loop-s
invariant-has_in-loop-s l = (l.found || has_stmts l.jump (t_stmts (stmts_of (drop l.s-index l.s-items)))) ≡ has_stmts l.jump (t_stmts (stmts_of l.s-items))
