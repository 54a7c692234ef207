use Rattle.std.proofs.Common.{◌≡◌, pos, neg_ℤ, ◌-ℤ◌, to_z, of_z, refl, ◌∙◌, rules, arith, false, bytes_eq, codes}
use Rattle.std.proofs.lemmas.Int.{ints}
use Rattle.std.specs.Int.{w128}
use Rattle.isp_code.specs.Writable.{constant_fits}
use Rattle.isp_asm.proofs.Spelled.{behind_minus, negative_fits, negative_not, negative_below}
use Rattle.isp_asm.proofs.words.negative.Goals as goal

pub returns-in-Ok-clause-spelled : goal.returns-in-Ok-clause-spelled
returns-in-Ok-clause-spelled c =
    let z : bytes_eq c.args.digits.now (codes "0") ≡ false = search rules in
    let e : to_z w128 (of_z w128 (pos 0 -ℤ to_z w128 (of_z w128 c.from.result))) ≡ neg_ℤ (pos c.in-Ok.number) = omega (arith, ints, c.from.ensures) in
    rw e (behind_minus c.in-Ok.number c.args.digits.now c.in-Ok.ensures.spelled z)

pub returns-in-Ok-clause-ok : goal.returns-in-Ok-clause-ok
returns-in-Ok-clause-ok c =
    let z : bytes_eq c.args.digits.now (codes "0") ≡ false = search rules in
    rw z (c.in-Ok.ensures.tested (λ v. constant_fits (neg_ℤ (pos v))) ∙ (rw (negative_fits c.in-Ok.number c.if-number-le-LEAST.true) refl))

pub returns-in-Ok-2-clause-err : goal.returns-in-Ok-2-clause-err
returns-in-Ok-2-clause-err c =
    let z : bytes_eq c.args.digits.now (codes "0") ≡ false = search rules in
    rw z (c.in-Ok.ensures.tested (λ v. constant_fits (neg_ℤ (pos v))) ∙ (rw (negative_not c.in-Ok.number c.if-number-le-LEAST.false) refl))

pub returns-in-Err-clause-err : goal.returns-in-Err-clause-err
returns-in-Err-clause-err c =
    let z : bytes_eq c.args.digits.now (codes "0") ≡ false = search rules in
    rw z (c.in-Err.ensures.err (λ v. constant_fits (neg_ℤ (pos v))) negative_below)
