use Rattle.std.proofs.Common.{◌≡◌, ◌++◌}
use Rattle.std.specs.Prelude.{codes}
use Rattle.isp_base.specs.Prints.{items_text}
use Rattle.isp_machine.specs.Seen.{seen_conf}
use Rattle.isp_traces.specs.Steps.{lanes_held}
use Rattle.isp_traces.proofs.lines.push_list.Given as goal

abbrev pub invariant-loop-lane : goal.invariant-loop-lane
invariant-loop-lane g l = l.text.items ≡ (l.fn.text.items ++ codes "[") ++ items_text l.elem l.lane (lanes_held l.code (seen_conf l.machine) l.written)
