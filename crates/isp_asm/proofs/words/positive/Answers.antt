use Rattle.std.proofs.Common.{pos, refl, ◌∙◌, rules, ◌<◌, ◌^◌}
use Rattle.isp_code.specs.Writable.{constant_fits}
use Rattle.isp_asm.proofs.Spelled.{positive_fits, positive_below}
use Rattle.isp_asm.proofs.words.positive.Goals as goal

pub returns-in-Ok-clause-ok : goal.returns-in-Ok-clause-ok
returns-in-Ok-clause-ok c =
    let l : c.in-Ok.number < 2 ^ 64 = search rules in
    c.in-Ok.ensures.tested (λ v. constant_fits (pos v)) ∙ (rw (positive_fits c.in-Ok.number l) refl)

pub returns-in-Err-clause-err : goal.returns-in-Err-clause-err
returns-in-Err-clause-err c = c.in-Err.ensures.err (λ v. constant_fits (pos v)) positive_below
