use Rattle.std.proofs.Common.{rules}
use Rattle.isp_machine.proofs.calls.wait.Goals as goal

pub wait-requires : goal.wait-requires
wait-requires g c =
    let wide = c.told.ensures.wide in
    search (rules, wide)
