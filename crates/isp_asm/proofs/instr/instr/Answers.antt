use Rattle.std.proofs.Common.{◌≡◌, ◌∙◌, Some, ap, rules}
use Rattle.std.proofs.lemmas.Result.{err_from_is_err_and}
use Rattle.isp_asm.specs.declared.fault.Rule.{Rule}
use Rattle.isp_asm.specs.reader.Making.{made}
use Rattle.isp_asm.proofs.InstrReadings.{registers_wrong, tail_wrong, none_wrong, made_fits, made_spelled}
use Rattle.isp_asm.proofs.instr.instr.Goals as goal

pub returns-in_err-registers-clause-err : goal.returns-in_err-registers-clause-err
returns-in_err-registers-clause-err c =
    let p = err_from_is_err_and c.from_residual.result c.from_residual.ensures.1 in
    let wrong = registers_wrong c.args.op c.shape-shape.result c.shape-shape.ensures c.args.words.now c.in-Some.front.now c.in-Some.back.now c.in-Some.ensures.some in
    rw (p.1, p.2) (λ r k. wrong r (c.in_err-registers.ensures.err r k))

pub returns-in_err-tail-clause-err : goal.returns-in_err-tail-clause-err
returns-in_err-tail-clause-err c =
    let p = err_from_is_err_and c.from_residual-in_err-tail.result c.from_residual-in_err-tail.ensures.1 in
    let wrong = tail_wrong c.args.op c.shape-shape.result c.shape-shape.ensures c.args.words.now c.in-Some.front.now c.in-Some.back.now c.in-Some.ensures.some in
    rw (p.1, p.2)
    (λ r k. let i : c.in_err-tail.field-0.0 ≡ r = cc in wrong r c.in_ok-registers.ensures.ok (c.in_err-tail.ensures.err ∙ ap (λ (q : Rule). Some q) i))

pub returns-clause-spelled : goal.returns-clause-spelled
returns-clause-spelled c =
    let e : c.assemble.result ≡ made c.args.op c.in_ok-registers.registers.items c.in_ok-tail.tail = search rules in
    rw e (made_spelled c.args.op c.shape-shape.result c.shape-shape.ensures c.args.words.now c.in-Some.front.now c.in-Some.back.now
    c.in-Some.ensures.some c.in_ok-registers.registers.items c.in_ok-tail.tail c.in_ok-registers.ensures.spelled c.in_ok-tail.ensures.spelled
    c.in_ok-tail.ensures.ending)

pub returns-clause-ok : goal.returns-clause-ok
returns-clause-ok c =
    none_wrong c.args.op c.shape-shape.result c.shape-shape.ensures c.args.words.now c.in-Some.front.now c.in-Some.back.now c.in-Some.ensures.some c.in_ok-registers.ensures.ok c.in_ok-tail.ensures.ok

pub returns-clause-fits : goal.returns-clause-fits
returns-clause-fits c =
    let e : c.assemble.result ≡ made c.args.op c.in_ok-registers.registers.items c.in_ok-tail.tail = search rules in
    rw e (made_fits c.args.op c.shape-shape.result c.shape-shape.ensures c.args.words.now c.in-Some.front.now c.in-Some.back.now
    c.in-Some.ensures.some c.in_ok-registers.registers.items c.in_ok-tail.tail c.in_ok-registers.ensures.spelled c.in_ok-tail.ensures.ending
    c.in_ok-registers.ensures.fits c.in_ok-tail.ensures.fits)
