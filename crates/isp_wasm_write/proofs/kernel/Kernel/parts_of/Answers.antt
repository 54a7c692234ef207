use Rattle.std.proofs.Common.{◌∙◌, ap}
use Rattle.isp_wasm.specs.Places as places
use Rattle.isp_wasm_binary.specs.Named as named
use Rattle.isp_wasm_write.specs.Settings.{setting}
use Rattle.isp_wasm_write.proofs.kernel.Kernel.parts_of.Goals as goal

pub returns-clause-is : goal.returns-clause-is
returns-clause-is c =
    c.parts_for.ensures.is ∙ ap (λ n. places.parts_for n (named.shape c.shape_of.result)) c.width.ensures.is
    ∙ ap (places.parts_for (places.gang (setting c.args.self.now))) (c.shape_of.ensures ∙ ap places.shape_of c.elem.ensures)
