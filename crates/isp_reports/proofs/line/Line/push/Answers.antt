use Rattle.std.proofs.Common.{arith, ◌≤◌, ◌+◌, ap, sym, subst, length}
use Rattle.isp_reports.specs.Lines.{Written}
use Rattle.isp_reports.proofs.Lines.{fits, zeros_behind}
use Rattle.isp_reports.proofs.line.Line.push.Goals as goal

pub invariant_of-self : goal.invariant_of-self
invariant_of-self c =
    let n = c.self.inside.length in
    let k = length c.args.bytes.now in
    let short : n + k ≤ 127 = fits n k c.self.inside.bytes c.self.invariant.0 c.self.told
    (subst (λ (w : Written). length w.text + k ≤ 127) (sym c.self.view_is) c.requires) in (
      short,
      zeros_behind n k _ c.self.inside.bytes c.copy_from_slice.new.self (omega arith) (ap length c.copy_from_slice.ensures.after) (omega arith) c.self.invariant.1,
      λ e. let full = c.self.invariant.2 e in omega arith,
    )
