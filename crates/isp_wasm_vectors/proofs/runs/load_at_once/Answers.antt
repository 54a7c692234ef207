use Rattle.std.proofs.Common.{◌++◌, ◌∙◌, ap}
use Rattle.isp_wasm.specs.Templates.{run_is_there}
use Rattle.isp_wasm_binary.specs.Instructions.{If_word, Else_word, End_word, code_bytes, expr_bytes, word_bytes}
use Rattle.isp_wasm_write.specs.Settings.{setting}
use Rattle.isp_wasm_vectors.specs.reader.Runs.{load_row, load_lanes}
use Rattle.isp_wasm_vectors.proofs.Chains.{if_else}
use Rattle.isp_wasm_vectors.proofs.RunBytes.{lanes_are_some, with_else}
use Rattle.isp_wasm_vectors.proofs.runs.load_at_once.Goals as goal

pub returns : goal.returns
returns c =
    let w = setting c.args.kernel.now in
    let r = c.args.run.now in
    let d = c.args.result_to in
    let there = expr_bytes (run_is_there w r.array r.index) in
    let row = code_bytes (load_row w c.args.form d r) in
    let lanes = code_bytes (load_lanes w d r) in
    let begin = word_bytes If_word in
    let other = word_bytes Else_word in
    let end = word_bytes End_word in
    c.in_ok-end.ensures ∙ ap (λ bs. bs ++ end) (c.in_ok-load_lanes.ensures ∙ ap (λ bs. bs ++ lanes) (c.in_ok-begin_else.ensures
    ∙ ap (λ bs. bs ++ other) (c.in_ok-load_row.ensures ∙ ap (λ bs. bs ++ row) (c.in_ok-begin_if.ensures ∙ ap (λ bs. bs ++ begin) c.in_ok-run_is_there.ensures))))
    ∙ if_else c.args.out.now there begin row other lanes end
    ∙ ap (λ bs. c.args.out.now ++ bs) (with_else (run_is_there w r.array r.index) (load_row w c.args.form d r) (load_lanes w d r) (lanes_are_some w r.mask _))
