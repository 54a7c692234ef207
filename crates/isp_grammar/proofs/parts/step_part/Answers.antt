use Rattle.std.proofs.Common.{arith}
use Rattle.isp_grammar.specs.reader.Starts.{begins_simple}
use Rattle.isp_grammar.specs.reader.Stmts.{simple_at, step_part_at}
use Rattle.isp_grammar.proofs.ListForms.{counted_limit, counted_step}
use Rattle.isp_grammar.proofs.parts.step_part.Goals as goal

pub returns-then-left-eq0-clause-value : goal.returns-then-left-eq0-clause-value
unfolding step_part_at
returns-then-left-eq0-clause-value c = rw (c.refuse_at_limit.ensures, c.begins_simple.ensures, c.if-left-eq0.true) (counted_limit begins_simple simple_at c.args.tokens.now)

pub returns-clause-value : goal.returns-clause-value
unfolding step_part_at
returns-clause-value c = rw (counted_step begins_simple simple_at c.args.left c.args.tokens.now (omega arith)) c.simple.ensures.value
