use Rattle.isp_exprs.specs.Callees.{move_library}
use Rattle.isp_exprs.proofs.LibraryNames.{none_named}
use Rattle.isp_exprs.proofs.callee.move_named.Goals as goal

pub returns-in_default : goal.returns-in_default
returns-in_default c =
    let d = c.in_default in
    none_named move_library c.args.name.now (d.not-broadcast, (d.not-rotate, (d.not-shift, (d.not-shuffle, (d.not-extract, (d.not-insert, (d.not-packed_store_active, (d.not-packed_load_active, tt))))))))
