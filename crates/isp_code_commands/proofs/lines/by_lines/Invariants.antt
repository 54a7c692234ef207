use Rattle.std.proofs.Common.{◌≡◌, ◌-◌, map, take}
use Rattle.isp_places.specs.Lines.{line_of}
use Rattle.isp_code_commands.proofs.lines.by_lines.Given as goal

abbrev pub invariant-loop-place : goal.invariant-loop-place
invariant-loop-place l = l.of_places.items ≡ map (λ p. line_of l.text p.start - 1) (take l.place-index l.places)
