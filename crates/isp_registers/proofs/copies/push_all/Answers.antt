use Rattle.isp_registers.proofs.Lookup.{named_next, own_next}
use Rattle.isp_registers.proofs.copies.push_all.Goals as goal

pub push-requires-clause-named : goal.push-requires-clause-named
push-requires-clause-named c = named_next c.loop-row.all c.args.rows.now c.loop-row.row-index _ c.loop-row.invariant c.loop-row-test.true c.requires.named

pub push-requires-clause-own : goal.push-requires-clause-own
push-requires-clause-own c = own_next c.args.rows.now c.loop-row.row-index _ c.loop-row-test.true c.requires.named
