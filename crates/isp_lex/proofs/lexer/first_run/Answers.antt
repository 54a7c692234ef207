use Rattle.isp_lex.proofs.Runs.{run_boundary}
use Rattle.isp_lex.proofs.lexer.first_run.Goals as goal

pub range-requires-clause-end_boundary : goal.range-requires-clause-end_boundary
range-requires-clause-end_boundary c = rw (c.run_len.ensures, c.as_bytes.ensures.value) (run_boundary c.args.text.now c.utf8.text)
