use Rattle.isp_lex.proofs.OneFault.{not_both, one_fault}
use Rattle.isp_lex.proofs.lexer.one_fault.Goals as goal

pub returns-clause-unique : goal.returns-clause-unique
returns-clause-unique c = one_fault

pub returns-clause-apart : goal.returns-clause-apart
returns-clause-apart c = not_both
