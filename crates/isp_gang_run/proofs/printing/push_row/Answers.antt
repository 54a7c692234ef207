use Rattle.std.proofs.Common.{◌≡◌, ℕ, ◌++◌, ap, ◌∙◌, arith}
use Rattle.isp_base.specs.Prints.{list_text}
use Rattle.isp_base.specs.Types.{gang_width}
use Rattle.isp_gang_values.specs.Seen.{map_of}
use Rattle.isp_gang_run.proofs.Printed.{items_end}
use Rattle.isp_gang_run.proofs.printing.push_row.Goals as goal

pub returns : goal.returns
returns c =
    let all : c.loop-instance.instance ≡ gang_width c.args.gang = omega (arith, c.loop-instance-test.false, c.loop-instance.auto.instance-end, c.width-instance-end.ensures) in
    items_end c.args.output.now.items c.args.elem c.loop-instance.instance (map_of c.args.row.now) c.loop-instance.output.items c.extend_from_slice-2.new.self.items c.loop-instance.invariant c.in_ok-extend_from_slice-2.ensures.items
    ∙ ap (λ (n : ℕ). c.args.output.now.items ++ list_text c.args.elem n (map_of c.args.row.now)) all
