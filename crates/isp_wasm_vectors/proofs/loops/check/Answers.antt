use Rattle.std.proofs.Common.{◌++◌, ◌∙◌, ap}
use Rattle.isp_wasm_meaning.specs.Syntax.{Const32}
use Rattle.isp_wasm.specs.Templates.{fault}
use Rattle.isp_wasm_binary.specs.Instructions.{If_word, Else_word, End_word, code_bytes, expr_bytes, word_bytes}
use Rattle.isp_wasm_write.specs.Settings.{setting}
use Rattle.isp_wasm_vectors.specs.reader.Loops.{is_there}
use Rattle.isp_wasm_vectors.proofs.Chains.{else_alone}
use Rattle.isp_wasm_vectors.proofs.loops.check.Goals as goal

pub returns : goal.returns
returns c =
    let w = setting c.args.kernel.now in
    let e = c.args.elements.now in
    let p = c.args.number in
    let there = expr_bytes (is_there w e p) in
    let trap = code_bytes (fault w 1 e.place (Const32 p)) in
    let begin = word_bytes If_word in
    let other = word_bytes Else_word in
    let end = word_bytes End_word in
    c.in_ok-end.ensures ∙ ap (λ bs. bs ++ end) (c.in_ok-fault.ensures ∙ ap (λ bs. bs ++ trap) (c.in_ok-begin_else.ensures
    ∙ ap (λ bs. bs ++ other) (c.in_ok-begin_if.ensures ∙ ap (λ bs. bs ++ begin) c.in_ok-is_there.ensures)))
    ∙ else_alone c.args.out.now there begin other trap end
