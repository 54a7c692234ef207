use Rattle.isp_lex.proofs.TokenCuts.{cuts}
use Rattle.isp_lex.proofs.lexer.whole_characters.Goals as goal

pub returns : goal.returns
returns c = cuts
