use Rattle.std.proofs.Common.{ap, ◌∙◌, List, Bool, not, ◌&&◌}
use Rattle.std.specs.List.{list_any}
use Rattle.std.specs.Simd.Lanes.{zip2}
use Rattle.isp_cross.proofs.Tests.{all_true}
use Rattle.isp_cross.proofs.reductions.all.Goals as goal

pub returns : goal.returns
returns g c =
    let mask = c.args.mask.now in
    ap not c.any.ensures
    ∙ ap (λ (bs : List Bool). not (list_any (λ b. b) bs)) (c.and_not.ensures ∙ ap (λ (ts : List Bool). zip2 (λ a b. a && not b) mask ts) c.test.ensures)
    ∙ all_true mask c.args.x.now.bits g.row.N c.told.ensures.long c.told-2.ensures.long
