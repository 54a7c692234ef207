use Rattle.std.proofs.Common.{◌≡◌, refl, ◌∙◌, arith, rules, false}
use Rattle.isp_asm.specs.Forms.{is_size}
use Rattle.isp_asm.proofs.Numerals.{a_size, no_size, size_below}
use Rattle.isp_asm.proofs.words.size.Goals as goal

pub returns-in-Ok-clause-ok : goal.returns-in-Ok-clause-ok
returns-in-Ok-clause-ok c =
    c.in-Ok.ensures.tested is_size ∙ (rw (a_size c.in-Ok.size (search rules) (search rules)) refl)

pub returns-in-Ok-2-clause-err : goal.returns-in-Ok-2-clause-err
returns-in-Ok-2-clause-err c =
    let e : is_size c.in-Ok.size ≡ false = no_size c.in-Ok.size (λ k l. omega (arith, k, l)) in
    c.in-Ok.ensures.tested is_size ∙ (rw e refl)

pub returns-in-Ok-2-2-clause-err : goal.returns-in-Ok-2-2-clause-err
returns-in-Ok-2-2-clause-err c =
    let e : is_size c.in-Ok.size ≡ false = no_size c.in-Ok.size (λ k l. omega (arith, k, l)) in
    c.in-Ok.ensures.tested is_size ∙ (rw e refl)

pub returns-in-Err-clause-err : goal.returns-in-Err-clause-err
returns-in-Err-clause-err c = c.in-Err.ensures.err is_size size_below
