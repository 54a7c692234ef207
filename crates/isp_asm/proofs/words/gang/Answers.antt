use Rattle.std.proofs.Common.{◌≡◌, ◌≢◌, refl, ◌∙◌, rules}
use Rattle.isp_asm.specs.Forms.{is_gang}
use Rattle.isp_asm.proofs.Numerals.{no_gang, gang_below}
use Rattle.isp_asm.proofs.words.gang.Goals as goal

pub returns-in-Ok-eq4-clause-ok : goal.returns-in-Ok-eq4-clause-ok
returns-in-Ok-eq4-clause-ok c =
    let e : c.in-Ok-eq4.field-0 ≡ 4 = search rules in
    c.in-Ok-eq4.ensures.tested is_gang ∙ (rw e refl)

pub returns-in-Ok-eq8-clause-ok : goal.returns-in-Ok-eq8-clause-ok
returns-in-Ok-eq8-clause-ok c =
    let e : c.in-Ok-eq8.field-0 ≡ 8 = search rules in
    c.in-Ok-eq8.ensures.tested is_gang ∙ (rw e refl)

pub returns-in-Ok-eq16-clause-ok : goal.returns-in-Ok-eq16-clause-ok
returns-in-Ok-eq16-clause-ok c =
    let e : c.in-Ok-eq16.field-0 ≡ 16 = search rules in
    c.in-Ok-eq16.ensures.tested is_gang ∙ (rw e refl)

pub returns-in-Ok-eq32-clause-ok : goal.returns-in-Ok-eq32-clause-ok
returns-in-Ok-eq32-clause-ok c =
    let e : c.in-Ok-eq32.field-0 ≡ 32 = search rules in
    c.in-Ok-eq32.ensures.tested is_gang ∙ (rw e refl)

pub returns-in-Ok-clause-err : goal.returns-in-Ok-clause-err
returns-in-Ok-clause-err c =
    let a : c.in-Ok.field-0 ≢ 4 = search rules in
    let b : c.in-Ok.field-0 ≢ 8 = search rules in
    let d : c.in-Ok.field-0 ≢ 16 = search rules in
    let e : c.in-Ok.field-0 ≢ 32 = search rules in
    c.in-Ok.ensures.tested is_gang ∙ (rw (no_gang c.in-Ok.field-0 a b d e) refl)

pub returns-in-Err-clause-err : goal.returns-in-Err-clause-err
returns-in-Err-clause-err c = c.in-Err.ensures.err is_gang gang_below
