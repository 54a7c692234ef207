use Rattle.std.proofs.Common.{◌≡◌, ◌++◌, ℕ, List, OnOk, subst}
use Rattle.isp_wasm_write.specs.Settings.{setting}
use Rattle.isp_wasm_vectors.proofs.PartLines.{in_parts}
use Rattle.isp_wasm_vectors.proofs.vectors.vector_code.Goals as goal

pub returns-in_default : goal.returns-in_default
returns-in_default c =
    subst (λ (bs : List ℕ). OnOk c.set_lanes.result (c.set_lanes.new.out ≡ c.args.out.now ++ bs))
    (in_parts (setting c.args.kernel.now) c.args.form c.args.result_to c.args.instr.now c.in_default.not-Gather c.in_default.not-LoadRun c.in_default.not-Binary) c.set_lanes.ensures
