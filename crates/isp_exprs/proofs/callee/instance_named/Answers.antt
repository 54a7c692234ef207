use Rattle.isp_exprs.specs.Callees.{instance_library}
use Rattle.isp_exprs.proofs.LibraryNames.{none_named}
use Rattle.isp_exprs.proofs.callee.instance_named.Goals as goal

pub returns-in_default : goal.returns-in_default
returns-in_default c =
    let d = c.in_default in
    none_named instance_library c.args.name.now (d.not-min, (d.not-max, (d.not-clamp, (d.not-abs, (d.not-select, tt)))))
