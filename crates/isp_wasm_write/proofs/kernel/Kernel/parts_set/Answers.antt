use Rattle.std.proofs.Common.{◌++◌, ◌∙◌, ap, append_assoc}
use Rattle.isp_wasm_meaning.specs.Syntax as wasm
use Rattle.isp_wasm.specs.Places as places
use Rattle.isp_wasm.specs.Templates.{each, mask_of}
use Rattle.isp_wasm_binary.specs.Instructions.{code_bytes}
use Rattle.isp_wasm_write.specs.Settings.{setting}
use Rattle.isp_wasm_write.proofs.kernel.Kernel.parts_set.Goals as goal

pub returns : goal.returns
returns c =
    let w = setting c.args.self.now in
    let new = code_bytes (each c.args.parts (λ j. wasm.Set (w.local (places.Fresh j)) (mask_of w c.args.instr.now j))) in
    let set = code_bytes (each c.args.parts (λ j. wasm.Set (w.local (places.Mask c.args.result_to.number j)) (wasm.Local (w.local (places.Fresh j))))) in
    c.in_ok-all_set.ensures ∙ ap (λ l. l ++ set) c.in_ok-worked_out.ensures ∙ append_assoc c.args.out.now new set
