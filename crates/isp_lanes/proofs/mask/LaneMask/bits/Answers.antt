use Rattle.std.proofs.Common.{refl, sym, ap, ◌∙◌, ◌≤◌, ◌%◌, ◌^◌, arith, length}
use Rattle.std.specs.Simd.Lanes.{mask_l}
use Rattle.std.proofs.lemmas.Simd.{mask_l-mod}
use Rattle.std.proofs.lemmas.List.{length-map}
use Rattle.isp_lanes.specs.Lanes.{is_on}
use Rattle.isp_lanes.proofs.MaskLanes.{wide_is}
use Rattle.isp_lanes.proofs.mask.LaneMask.bits.Goals as goal

pub returns : goal.returns
returns g c =
    let xs = c.self.inside.lanes in
    let ms = c.args.self.now in
    let row = wide_is 7 255 refl refl g.row.N xs c.self.invariant.0 c.self.invariant.1 ∙ c.self.view_is in
    let room : length ms ≤ 64 = omega (arith, ap length (sym c.self.view_is), length-map xs is_on, c.self.invariant.0, c.self.invariant.2) in
    ap (λ r. mask_l r % 2 ^ 64) row ∙ mask_l-mod ms 64 room
