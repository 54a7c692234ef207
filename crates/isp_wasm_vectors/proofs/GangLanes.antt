-- A gang has lanes.
use Rattle.std.proofs.Common.{◌<◌, lit<}
use Rattle.isp_base.specs.Types.{gang_width}
use Rattle.isp_base.specs.declared.types.Gang.{Gang}
use Rattle.isp_base.specs.declared.types.Gang.TheVariants.{W4, W8, W16, W32}

pub some_lanes : (g : Gang) → 0 < gang_width g
some_lanes W4 = lit< tt
some_lanes W8 = lit< tt
some_lanes W16 = lit< tt
some_lanes W32 = lit< tt
