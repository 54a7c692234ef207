use Rattle.std.proofs.Common.{refl}
use Rattle.isp_lex.proofs.Marks.{decides}
use Rattle.isp_lex.proofs.token.TokenKind.is.Goals as goal

pub returns-in-Mark-clause-value : goal.returns-in-Mark-clause-value
returns-in-Mark-clause-value c = rw c.in-Mark.is refl

pub returns-in-Mark-clause-exact : goal.returns-in-Mark-clause-exact
returns-in-Mark-clause-exact c = decides c.args.mark c.args.self.now _ (rw c.in-Mark.is refl)
