use Rattle.isp_exprs.specs.reader.Parts.{boxed_of}
use Rattle.isp_exprs.specs.Values.{cast_to}
use Rattle.isp_typed.proofs.Verdicts.{kept_found}
use Rattle.isp_exprs.proofs.values.cast_to.Goals as goal

pub returns-in_ok-cast-in-Ok : goal.returns-in_ok-cast-in-Ok
returns-in_ok-cast-in-Ok c = rw c.in_ok-cast-in-Ok.ensures (kept_found boxed_of (cast_to c.args.span) c.args.words c.args.x c.in-Ok.words c.in-Ok.x (cc))
