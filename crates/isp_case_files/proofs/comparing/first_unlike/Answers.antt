use Rattle.std.proofs.Common.{◌≡◌, ◌==◌, length, false, ◌∙◌}
use Rattle.isp_case_files.proofs.Turns.{ends_after}
use Rattle.isp_case_files.proofs.comparing.first_unlike.Goals as goal

pub returns-else-is_empty-clause-some : goal.returns-else-is_empty-clause-some
returns-else-is_empty-clause-some c =
    let some : (length c.loop-place.rest.now == 0) ≡ false = cc in
    c.loop-place.invariant ∙ ends_after c.args.wanted.now c.loop-place.place c.loop-place.rest.now c.loop-place-test.false some
