use Rattle.std.proofs.Common.{◌≡◌, ◌++◌, drop, string_bytes}
use Rattle.std.specs.Prelude.{flat_map}
use Rattle.isp_case_command.specs.Showing.{lines_of}
use Rattle.isp_case_command.proofs.page.push_lines.Given as goal

abbrev pub invariant-loop-one : goal.invariant-loop-one
invariant-loop-one l = string_bytes l.text ++ flat_map lines_of (drop l.one-index l.tried) ≡ string_bytes l.initial.text ++ flat_map lines_of l.tried
