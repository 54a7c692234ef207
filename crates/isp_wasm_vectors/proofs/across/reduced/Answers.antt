use Rattle.std.proofs.Common.{◌++◌, ◌∙◌, ap, sym}
use Rattle.std.proofs.lemmas.Result.{on_ok_weaker}
use Rattle.isp_wasm_meaning.specs.Syntax.{Set}
use Rattle.isp_wasm.specs.Places.{Scalar}
use Rattle.isp_wasm_binary.specs.Instructions.{code_bytes}
use Rattle.isp_wasm_write.specs.Settings.{setting}
use Rattle.isp_wasm_vectors.specs.reader.Across.{folded_to, reduced}
use Rattle.isp_wasm_vectors.proofs.Reductions.{any_is, all_is}
use Rattle.isp_wasm_vectors.proofs.across.reduced.Goals as goal

pub returns-in-Any : goal.returns-in-Any
returns-in-Any c =
    let w = setting c.args.kernel.now in
    let o = c.args.out.now in
    let d = c.args.result_to in
    on_ok_weaker c.folded_to-in-Any.result
    (λ e. e ∙ ap (λ f. o ++ code_bytes (folded_to w d f)) c.of_bools-fold-in-Any.ensures
    ∙ ap (λ x. o ++ code_bytes (Set (w.local (Scalar d.number)) x)) (any_is w c.args.vector c.args.mask)
    ∙ ap (λ p. o ++ code_bytes (reduced w d p c.args.vector c.args.mask)) (sym c.in-Any.is))
    c.folded_to-in-Any.ensures

pub returns-in-All : goal.returns-in-All
returns-in-All c =
    let w = setting c.args.kernel.now in
    let o = c.args.out.now in
    let d = c.args.result_to in
    on_ok_weaker c.folded_to-in-All.result
    (λ e. e ∙ ap (λ f. o ++ code_bytes (folded_to w d f)) c.of_bools-fold-in-All.ensures
    ∙ ap (λ x. o ++ code_bytes (Set (w.local (Scalar d.number)) x)) (all_is w c.args.vector c.args.mask)
    ∙ ap (λ p. o ++ code_bytes (reduced w d p c.args.vector c.args.mask)) (sym c.in-All.is))
    c.folded_to-in-All.ensures
