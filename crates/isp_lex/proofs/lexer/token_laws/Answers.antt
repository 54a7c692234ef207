use Rattle.isp_lex.proofs.Listings.{laws}
use Rattle.isp_lex.proofs.lexer.token_laws.Goals as goal

pub returns : goal.returns
returns c = laws
