use Rattle.std.proofs.Common.{◌≡◌, ◌+◌, ◌<◌, ◌≤◌, List, length, drop, get_or, sym, ap, subst, ◌∙◌, eqb-true}
use Rattle.std.proofs.lemmas.Result.{err_from_is_err_and}
use Rattle.isp_base.specs.declared.signature.Parameter.{Parameter}
use Rattle.isp_base.specs.declared.signature.Argument.{Argument}
use Rattle.isp_packed.specs.Unpacking.{arguments_of, unpacked_of}
use Rattle.isp_packed.proofs.Fits.{unpacked_fits}
use Rattle.isp_packed.proofs.Found.{done_not, done_step, done_whole, with_done}
use Rattle.isp_packed.proofs.arguments.unpack.Goals as goal

pub returns-in_err-argument-clause-err : goal.returns-in_err-argument-clause-err
returns-in_err-argument-clause-err c =
    let ps = c.args.signature.now.params.items in
    let i = c.loop-number.number in
    let q = c.parameter-item.result in
    let less = subst (λ (l : List Parameter). i < length l) c.deref-parameter-items.ensures.value c.loop-number-test.true in
    let is = subst (λ (l : List Parameter). q ≡ get_or l i q) c.deref-parameter-items.ensures.value c.parameter-item.is in
    let p = err_from_is_err_and c.from_residual.result c.from_residual.ensures.1 in
    rw (p.1, p.2)
    (λ other. done_not (unpacked_of ps c.args.bytes.now) ps i q c.loop-number.rest.now c.loop-number.arguments.items c.in_err-argument.field-0.0 less is (c.in_err-argument.ensures.err other) c.loop-number.invariant)

pub loop-number-preserved : goal.loop-number-preserved
loop-number-preserved c =
    let ps = c.args.signature.now.params.items in
    let i = c.loop-number.number in
    let q = c.parameter-item.result in
    let after = c.behind-rest.result.now in
    let less = subst (λ (l : List Parameter). i < length l) c.deref-parameter-items.ensures.value c.loop-number-test.true in
    let is = subst (λ (l : List Parameter). q ≡ get_or l i q) c.deref-parameter-items.ensures.value c.parameter-item.is in
    done_step (unpacked_of ps c.args.bytes.now) ps i q c.loop-number.rest.now after c.loop-number.arguments.items c.in_ok-argument.argument less is c.in_ok-argument.ensures.ok c.behind-rest.ensures c.loop-number.invariant
    ∙ ap (λ (l : List Argument). with_done l (arguments_of (i + 1) (drop (i + 1) ps) after)) (sym c.in_ok-push.ensures.items)

pub returns-clause-bound : goal.returns-clause-bound
returns-clause-bound c =
    let ps = c.args.signature.now.params.items in
    let i = c.loop-number.number in
    let rest = c.loop-number.rest.now in
    let done = c.loop-number.arguments.items in
    let end = subst (λ (l : List Parameter). length l ≤ i) c.deref-parameter-items.ensures.value c.loop-number-test.false in
    let none = eqb-true (length rest) 0 (sym c.is_empty.ensures ∙ c.if-not-is_empty.false) in
    unpacked_fits ps c.args.bytes.now done (done_whole (unpacked_of ps c.args.bytes.now) ps i rest done end none c.loop-number.invariant)
