use Rattle.std.proofs.Common.{refl}
use Rattle.isp_entry.proofs.Beginners.{begins_with}
use Rattle.isp_entry.proofs.entry.find.Goals as goal

pub returns-in-Some-clause-some : goal.returns-in-Some-clause-some
returns-in-Some-clause-some c = begins_with c.args.program.now c.args.entry.now c.args.bound.now.arguments.items c.in-Some.number c.index.result.now c.in-Some.ensures.there c.index.ensures c.in-Some.ensures.some

pub returns-in-None-clause-none : goal.returns-in-None-clause-none
returns-in-None-clause-none c e = c.in-None.ensures.none refl
