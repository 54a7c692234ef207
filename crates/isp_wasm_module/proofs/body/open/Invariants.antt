use Rattle.std.proofs.Common.{◌≡◌, ◌++◌}
use Rattle.isp_wasm_module.specs.reader.Pieces.{opened}
use Rattle.isp_wasm_module.proofs.body.open.Given as goal

-- the blocks so far
abbrev pub invariant-loop-rung : goal.invariant-loop-rung
invariant-loop-rung l = l.out ≡ l.initial.out ++ opened l.rung
