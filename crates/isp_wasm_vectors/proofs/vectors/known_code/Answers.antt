use Rattle.std.proofs.Common.{◌≡◌, ◌++◌, List, ℕ, OnOk, true, false, subst}
use Rattle.isp_wasm_write.specs.Settings.{setting}
use Rattle.isp_wasm_vectors.proofs.PartLines.{known_as_kept, known_as_shift}
use Rattle.isp_wasm_vectors.proofs.vectors.known_code.Goals as goal

pub returns-in-Shl : goal.returns-in-Shl
returns-in-Shl c =
    let w = setting c.args.kernel.now in
    subst (λ (bs : List ℕ). OnOk c.shifted_lanes.result (c.shifted_lanes.new.out ≡ c.args.out.now ++ bs))
    (known_as_shift w c.args.form c.args.amount c.args.result_to c.args.instr.now c.by-shift.result true c.in-Binary.op c.in-Binary.left c.in-Binary.right c.in-Binary.mask c.elem-elem.result c.in-Binary.is c.in-Shl.is
    c.by-shift.ensures c.elem-elem.ensures) c.shifted_lanes.ensures

pub returns-in-Shr : goal.returns-in-Shr
returns-in-Shr c =
    let w = setting c.args.kernel.now in
    subst (λ (bs : List ℕ). OnOk c.shifted_lanes-in-Shr.result (c.shifted_lanes-in-Shr.new.out ≡ c.args.out.now ++ bs))
    (known_as_shift w c.args.form c.args.amount c.args.result_to c.args.instr.now c.by-shift-in-Shr.result false c.in-Binary.op c.in-Binary.left c.in-Binary.right c.in-Binary.mask c.elem-elem.result c.in-Binary.is c.in-Shr.is
    c.by-shift-in-Shr.ensures c.elem-elem.ensures) c.shifted_lanes-in-Shr.ensures

pub returns-in_default-op : goal.returns-in_default-op
returns-in_default-op c =
    let w = setting c.args.kernel.now in
    subst (λ (bs : List ℕ). OnOk c.set_lanes.result (c.set_lanes.new.out ≡ c.args.out.now ++ bs))
    (known_as_kept w c.args.form c.args.amount c.args.result_to c.args.instr.now c.in-Binary.op c.in-Binary.left c.in-Binary.right c.in-Binary.mask c.in-Binary.is c.in_default-op.not-Shl c.in_default-op.not-Shr)
    c.set_lanes.ensures
