-- What holds of every gang.
use Rattle.std.proofs.Common.{◌≡◌, ◌<◌, ◌≤◌, true, refl, arith}
use Rattle.isp_base.specs.Sets.{any, everyone}
use Rattle.isp_base.specs.Types.{gang_width, widest}
use Rattle.isp_base.specs.declared.types.Gang.{Gang}
use Rattle.isp_base.specs.declared.types.Gang.TheVariants.{W4, W8, W16, W32}

pub some_width : (g : Gang) → 0 < gang_width g
some_width W4 = omega arith
some_width W8 = omega arith
some_width W16 = omega arith
some_width W32 = omega arith

pub few_width : (g : Gang) → gang_width g ≤ widest
few_width W4 = omega arith
few_width W8 = omega arith
few_width W16 = omega arith
few_width W32 = omega arith

pub someone : (g : Gang) → any (gang_width g) (everyone (gang_width g)) ≡ true
someone W4 = refl
someone W8 = refl
someone W16 = refl
someone W32 = refl
