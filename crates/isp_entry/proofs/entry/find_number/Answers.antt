use Rattle.std.proofs.Common.{◌<◌, ◌≤◌, length, sym, ◌∙◌, arith}
use Rattle.std.proofs.lemmas.Bool.{true≢false}
use Rattle.isp_entry.proofs.Beginners.{begins_at, none_more, none_at_all}
use Rattle.isp_entry.proofs.entry.find_number.Goals as goal

pub returns-then-can_begin-clause-some : goal.returns-then-can_begin-clause-some
returns-then-can_begin-clause-some c =
    let h : c.loop-number.number < length c.args.program.now.functions.items = omega (arith, c.loop-number-test.true, c.len-number-end.ensures) in
    begins_at c.args.program.now c.args.entry.now c.args.bound.now.arguments.items c.loop-number.number c.index.result.now h c.index.ensures (c.can_begin.ensures.0 c.if-can_begin.true)

pub loop-number-preserved : goal.loop-number-preserved
loop-number-preserved c =
    let h : c.loop-number.number < length c.args.program.now.functions.items = omega (arith, c.loop-number-test.true, c.len-number-end.ensures) in
    none_more c.args.program.now c.args.entry.now c.args.bound.now.arguments.items c.loop-number.number c.index.result.now h c.index.ensures (λ can. true≢false (sym (c.can_begin.ensures.1 can) ∙ c.if-can_begin.false)) c.loop-number.invariant

pub returns-clause-none : goal.returns-clause-none
returns-clause-none c e =
    let h : length c.args.program.now.functions.items ≤ c.loop-number.number = omega (arith, c.loop-number-test.false, c.len-number-end.ensures) in
    none_at_all c.args.program.now c.args.entry.now c.args.bound.now.arguments.items c.loop-number.number h c.loop-number.invariant
