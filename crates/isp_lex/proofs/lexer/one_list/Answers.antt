use Rattle.isp_lex.proofs.Lexed.{one_list}
use Rattle.isp_lex.proofs.lexer.one_list.Goals as goal

pub returns : goal.returns
returns c = one_list
