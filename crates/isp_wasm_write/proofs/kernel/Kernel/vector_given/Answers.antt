use Rattle.std.proofs.Common.{ℕ, ◌++◌, ◌∙◌, [], ◌∷◌, suc, ap, append_assoc}
use Rattle.isp_wasm_meaning.specs.Syntax as wasm
use Rattle.isp_wasm.specs.Places as places
use Rattle.isp_wasm.specs.Templates as templates
use Rattle.isp_wasm.specs.Templates.{each}
use Rattle.isp_wasm_binary.specs.Instructions.{code_bytes}
use Rattle.isp_wasm_write.specs.Settings.{setting}
use Rattle.isp_wasm_write.proofs.kernel.Kernel.vector_given.Goals as goal

pub returns : goal.returns
returns c =
    let w = setting c.args.self.now in
    let x = c.args.register in
    let set = λ (n : ℕ). code_bytes (each n (λ j. wasm.SetGlobal (suc j) (templates.vector_local w x j))) in
    c.in_ok-give_back.ensures
    ∙ ap (λ l. l ++ 15 ∷ []) (c.in_ok-parts_given.ensures ∙ ap (λ n. c.args.out.now ++ set n) c.parts_of.ensures.is)
    ∙ append_assoc c.args.out.now (set (places.parts w (places.shape w x))) (15 ∷ [])
