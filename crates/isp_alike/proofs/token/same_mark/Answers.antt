use denote.Enum.Bare.{same_true}
use Rattle.isp_lex.specs.contracts.token.Mark.{the_type}
use Rattle.isp_alike.proofs.token.same_mark.Goals as goal

pub returns : goal.returns
returns c = λ t. same_true the_type tt c.args.x c.args.y t
