use Rattle.std.proofs.Common.{◌≡◌, ℕ, ◌++◌, subst}
use Rattle.std.specs.Prelude.{OnOk}
use Rattle.isp_wasm_meaning.specs.Syntax as wasm
use Rattle.isp_wasm.specs.Places as places
use Rattle.isp_wasm.specs.Templates.{each, mask_of}
use Rattle.isp_wasm_binary.specs.Instructions.{code_bytes}
use Rattle.isp_wasm_write.specs.Settings.{setting}
use Rattle.isp_wasm_write.proofs.kernel.Kernel.mask_line.Goals as goal

pub returns : goal.returns
returns c =
    let w = setting c.args.self.now in
    subst
    (λ (n : ℕ). OnOk c.parts_set.result (c.parts_set.new.out ≡ c.args.out.now ++ (code_bytes (each n (λ j. wasm.Set (w.local (places.Fresh j)) (mask_of w c.args.instr.now j))) ++ code_bytes (each n (λ j. wasm.Set (w.local (places.Mask c.args.result_to.number j)) (wasm.Local (w.local (places.Fresh j))))))))
    c.mask_parts.ensures.is c.parts_set.ensures
