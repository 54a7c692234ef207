use Rattle.std.proofs.Common.{◌≡◌, ℕ, ◌<◌, length, false, take}
use Rattle.std.specs.Prelude.{slice_index_or, nat_eq, ◌||◌}
use Rattle.std.specs.List.{list_any}
use Rattle.isp_wasm.specs.Module.{goes_to}
use Rattle.isp_wasm_write.proofs.heads.marks.Given as goal

-- the first, and where the instructions so far jump to
abbrev pub invariant-loop-instr : goal.invariant-loop-instr
invariant-loop-instr l = record {
  long : length l.marks.items ≡ length l.code;
  each : (k : ℕ) → k < length l.code → slice_index_or l.marks.items k false ≡ (nat_eq k 0 || list_any (goes_to k) (take l.instr-index l.code));
}
