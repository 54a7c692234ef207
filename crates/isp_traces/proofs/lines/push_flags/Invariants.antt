use Rattle.std.proofs.Common.{◌≡◌, ◌++◌}
use Rattle.isp_machine.specs.Seen.{seen_conf}
use Rattle.isp_traces.specs.Steps.{flags_text}
use Rattle.isp_traces.specs.Executed.{mask_held}
use Rattle.isp_traces.proofs.lines.push_flags.Given as goal

abbrev pub invariant-loop-lane : goal.invariant-loop-lane
invariant-loop-lane g l = l.text.items ≡ l.fn.text.items ++ flags_text (mask_held l.code (seen_conf l.machine) l.mask) l.lane
