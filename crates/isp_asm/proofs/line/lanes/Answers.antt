use Rattle.std.proofs.Common.{◌≡◌, refl, rules, ◌∙◌}
use Rattle.isp_asm.proofs.HeaderReadings.{header_read, other, same}
use Rattle.isp_asm.proofs.line.lanes.Goals as goal

pub returns-then-version-version_of-clause-ok : goal.returns-then-version-version_of-clause-ok
returns-then-version-version_of-clause-ok c =
    header_read c.args.version.now c.args.gang.now c.args.width.now c.in_ok-version.version c.in_ok-gang.gang (search rules) (search rules) c.in_ok-version.ensures.fits (search rules) (search rules) (search rules)
    ∙ (rw (same c.in_ok-version.version c.version_of.result c.in_ok-gang.gang c.if-version-version_of.true c.version_of.ensures) refl)

pub returns-else-version-version_of-clause-err : goal.returns-else-version-version_of-clause-err
returns-else-version-version_of-clause-err c =
    header_read c.args.version.now c.args.gang.now c.args.width.now c.in_ok-version.version c.in_ok-gang.gang (search rules) (search rules) c.in_ok-version.ensures.fits (search rules) (search rules) (search rules)
    ∙ (rw (other c.in_ok-version.version c.version_of.result c.in_ok-gang.gang c.if-version-version_of.false c.version_of.ensures) refl)
