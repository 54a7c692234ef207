use Rattle.std.proofs.Common.{◌≡◌, ◌++◌, drop}
use Rattle.std.specs.List.{flat_map}
use Rattle.isp_native.specs.Lines.{behind}
use Rattle.isp_native.proofs.page.Page.all_behind.Given as goal

-- what is written, and what the rest will add
abbrev pub invariant-loop-register : goal.invariant-loop-register
invariant-loop-register l = l.self ++ flat_map behind (drop l.register-index l.registers) ≡ l.initial.self ++ flat_map behind l.registers
