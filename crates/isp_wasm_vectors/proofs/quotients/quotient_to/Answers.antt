use Rattle.std.proofs.Common.{◌++◌, ◌∙◌, ap}
use Rattle.isp_wasm_binary.specs.Instructions.{If_word, Else_word, End_word, code_bytes, expr_bytes, word_bytes}
use Rattle.isp_wasm_write.specs.Settings.{setting}
use Rattle.isp_wasm_vectors.specs.reader.Loops.{fault_of}
use Rattle.isp_wasm_vectors.specs.reader.Quotients.{by_nought, whole}
use Rattle.isp_wasm_vectors.proofs.Chains.{if_else}
use Rattle.isp_wasm_vectors.proofs.quotients.quotient_to.Goals as goal

pub returns : goal.returns
returns c =
    let w = setting c.args.kernel.now in
    let o = c.args.quotient.now in
    let none = expr_bytes (by_nought o) in
    let trap = code_bytes (fault_of w 0 o.place c.args.who) in
    let done = code_bytes (whole w o c.args.to) in
    let begin = word_bytes If_word in
    let other = word_bytes Else_word in
    let end = word_bytes End_word in
    c.in_ok-end.ensures ∙ ap (λ bs. bs ++ end) (c.in_ok-whole.ensures ∙ ap (λ bs. bs ++ done) (c.in_ok-begin_else.ensures
    ∙ ap (λ bs. bs ++ other) (c.in_ok-fault.ensures ∙ ap (λ bs. bs ++ trap) (c.in_ok-begin_if.ensures ∙ ap (λ bs. bs ++ begin) c.in_ok-by_nought.ensures))))
    ∙ if_else c.args.out.now none begin trap other done end
