use Rattle.isp_exprs.specs.Callees.{cross_library}
use Rattle.isp_exprs.proofs.LibraryNames.{none_named}
use Rattle.isp_exprs.proofs.callee.cross_named.Goals as goal

pub returns-in_default : goal.returns-in_default
returns-in_default c =
    let d = c.in_default in
    none_named cross_library c.args.name.now (
      d.not-reduce_add,
      (
        d.not-reduce_min,
        (
          d.not-reduce_max,
          (
            d.not-reduce_equal,
            (d.not-any, (d.not-all, (d.not-none, (d.not-exclusive_scan_add, (d.not-exclusive_scan_and, (d.not-exclusive_scan_or, tt)))))),
          ),
        ),
      ),
    )
