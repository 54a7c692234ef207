use Rattle.std.proofs.Common.{◌≡◌, drop}
use Rattle.isp_typed.specs.Typed.{t_stmts}
use Rattle.isp_typed.specs.Views.{stmts_of}
use Rattle.isp_independence.specs.reader.Answers.{first_of, stmts_answer}
use Rattle.isp_independence.proofs.stmt.+stmt.Given as goal

abbrev pub invariant-block-loop-s : goal.invariant-block-loop-s
invariant-block-loop-s l =
    first_of l.seen (stmts_answer l.control (t_stmts (stmts_of (drop l.s-index l.s-items)))) ≡ stmts_answer l.control (t_stmts (stmts_of l.s-items))
