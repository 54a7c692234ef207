use Rattle.std.proofs.Common.{rules}
use Rattle.isp_machine.proofs.returns.keep.Goals as goal

pub end-requires : goal.end-requires
end-requires g c =
    let wide = c.requires in
    search (rules, wide)

pub drop-dropped-requires-room-T-Destruct : goal.drop-dropped-requires-room-T-Destruct
drop-dropped-requires-room-T-Destruct g c =
    let wide = c.requires in
    search (rules, wide)
