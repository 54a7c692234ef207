use Rattle.std.proofs.Common.{◌≡◌, sym, ◌∙◌, subst}
use Rattle.std.proofs.lemmas.Result.{IfOk-weaker}
use Rattle.isp_code.specs.Listing.{Listing}
use Rattle.isp_forms.specs.Tables.{forms_in, lists_of}
use Rattle.isp_lanes_forms.specs.Begins.{BeginHarmless}
use Rattle.isp_wasm.specs.Module.{module_with}
use Rattle.isp_wasm_binary.specs.Binary.{bytes_of}
use Rattle.isp_wasm_module.proofs.FirstRefused.{explained}
use Rattle.isp_wasm_file.specs.File.{IsModule}
use Rattle.isp_wasm_file.proofs.section.in_forms.Goals as goal

pub returns-in-Ok-clause-bytes : goal.returns-in-Ok-clause-bytes
returns-in-Ok-clause-bytes c =
    let forms = forms_in (lists_of c.in-Ok.forms) in
    let harmless = subst (λ (l : Listing). BeginHarmless l forms) c.code.ensures.same c.in-Ok.ensures in
    IfOk-weaker c.module.result (λ v. v.items ≡ bytes_of (module_with c.args.code.now forms)) (λ v. IsModule c.args.code.now v.items)
    (λ v e. record { forms = forms; harmless = harmless; bytes_are = e }) c.module.ensures.bytes

pub returns-in-Some-clause-refused : goal.returns-in-Some-clause-refused
returns-in-Some-clause-refused c = explained c.args.code.now c.in-Some.refusal (sym c.refusal.ensures ∙ c.in-Some.is)
