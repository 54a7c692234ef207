use Rattle.std.proofs.Common.{arith}
use Rattle.isp_code.specs.declared.register.Class.TheVariants.{Mask}
use Rattle.isp_lower_code.specs.Layout.{class_at}
use Rattle.isp_lower.proofs.Behind.{behind_there}
use Rattle.isp_lower.proofs.Naming.{count_at}
use Rattle.isp_lower.proofs.laws.next_is_behind.Goals as goal

pub returns : goal.returns
returns c = record {
  registers = λ d r named. omega (arith, behind_there d.rows d.masks (class_at r) d.code named, count_at d.rows d.masks r);
  masks = λ d named. omega (arith, behind_there d.rows d.masks Mask d.code named);
}
