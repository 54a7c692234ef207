use Rattle.std.proofs.Common.{◌≡◌, ℕ, ◌++◌, ◌+◌, ◌*◌, subst}
use Rattle.std.specs.Prelude.{OnOk, if◌then◌else◌, nat_lt}
use Rattle.isp_wasm_meaning.specs.Meaning.{of_lanes}
use Rattle.isp_wasm_meaning.specs.Syntax as wasm
use Rattle.isp_wasm_binary.specs.Instructions.{expr_bytes}
use Rattle.isp_wasm_write.proofs.kernel.Kernel.numbers.Goals as goal

pub returns : goal.returns
returns c =
    let j = c.args.part in
    subst
    (λ (n : ℕ). OnOk c.numbers.result (c.numbers.new.out ≡ c.args.out.now ++ expr_bytes (wasm.Const128 (of_lanes wasm.I8x16 (λ i. if nat_lt (j * 16 + i) n then j * 16 + i else 127)))))
    c.width.ensures.is c.numbers.ensures
