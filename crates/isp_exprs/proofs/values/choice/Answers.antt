use Rattle.isp_exprs.specs.reader.Parts.{boxed_of}
use Rattle.isp_exprs.specs.Values.{choice}
use Rattle.isp_typed.proofs.Verdicts.{three_fail}
use Rattle.isp_exprs.proofs.values.choice.Goals as goal

pub returns-in-Err : goal.returns-in-Err
returns-in-Err c = three_fail boxed_of boxed_of boxed_of (choice c.args.span) c.args.test c.args.x c.args.y c.in-Err.fault (cc)
