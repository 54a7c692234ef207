use Rattle.std.proofs.Common.{◌≡◌, string_bytes, inl, inr, refl, sym}
use Rattle.std.proofs.lemmas.Result.{err_from_is_err_and}
use Rattle.isp_output.proofs.Written.{adds_nil}
use Rattle.isp_case_command.specs.Testing.{Tested}
use Rattle.isp_case_command.proofs.command.done.Goals as goal

pub returns-in_err-page : goal.returns-in_err-page
returns-in_err-page g c =
    let p = err_from_is_err_and c.from_residual.result c.from_residual.ensures.1 in
    rw (p.1, p.2) (inr (_, refl, rw (← c.as_str.ensures.value, ← c.as_str-2.ensures.value) c.in_err-page.ensures.err, (sym (adds_nil _), c.requires)))

pub returns-in-Ok : goal.returns-in-Ok
returns-in-Ok g c =
    let page = c.in_ok-page.page in
    let texts = c.args.texts.now in
    let shown : Tested c.args.request.now (string_bytes texts.source) (string_bytes texts.cases) (string_bytes page.text) page.end = rw (← c.as_str.ensures.value, ← c.as_str-2.ensures.value) c.in_ok-page.ensures.ok in
    inl (string_bytes page.text, page.end, shown, inl (refl, rw (← c.as_bytes.ensures.value) c.in-Ok.ensures.ok))

pub returns : goal.returns
returns g c =
    let page = c.in_ok-page.page in
    let texts = c.args.texts.now in
    let shown : Tested c.args.request.now (string_bytes texts.source) (string_bytes texts.cases) (string_bytes page.text) page.end = rw (← c.as_str.ensures.value, ← c.as_str-2.ensures.value) c.in_ok-page.ensures.ok in
    inl (string_bytes page.text, page.end, shown, inr (refl, rw (← c.as_bytes.ensures.value) c.in-Err.ensures.err))
