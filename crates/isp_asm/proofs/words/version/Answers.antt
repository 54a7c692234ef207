use Rattle.std.proofs.Common.{◌≡◌, ◌≢◌, refl, ◌∙◌, rules}
use Rattle.isp_asm.specs.Forms.{is_version}
use Rattle.isp_asm.proofs.Numerals.{no_version, version_below}
use Rattle.isp_asm.proofs.words.version.Goals as goal

pub returns-in-Ok-eq1-clause-ok : goal.returns-in-Ok-eq1-clause-ok
returns-in-Ok-eq1-clause-ok c =
    let e : c.in-Ok-eq1.field-0 ≡ 1 = search rules in
    c.in-Ok-eq1.ensures.tested is_version ∙ (rw e refl)

pub returns-in-Ok-eq2-clause-ok : goal.returns-in-Ok-eq2-clause-ok
returns-in-Ok-eq2-clause-ok c =
    let e : c.in-Ok-eq2.field-0 ≡ 2 = search rules in
    c.in-Ok-eq2.ensures.tested is_version ∙ (rw e refl)

pub returns-in-Ok-clause-err : goal.returns-in-Ok-clause-err
returns-in-Ok-clause-err c =
    let a : c.in-Ok.field-0 ≢ 1 = search rules in
    let b : c.in-Ok.field-0 ≢ 2 = search rules in
    c.in-Ok.ensures.tested is_version ∙ (rw (no_version c.in-Ok.field-0 a b) refl)

pub returns-in-Err-clause-err : goal.returns-in-Err-clause-err
returns-in-Err-clause-err c = c.in-Err.ensures.err is_version version_below
