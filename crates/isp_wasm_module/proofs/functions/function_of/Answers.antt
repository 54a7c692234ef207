use Rattle.std.proofs.Common.{◌≡◌, sym, ap, ◌∙◌, subst, map, length, ℕ, ◌<◌}
use Rattle.std.specs.Prelude.{option_map}
use Rattle.std.proofs.lemmas.List.{length-map}
use Rattle.std.proofs.lemmas.Option.{slice_get-map}
use Rattle.isp_code.specs.Listing.{Listing, routine_of}
use Rattle.isp_code.specs.Registers.{table_of}
use Rattle.isp_verify.proofs.Exports.{routine_at}
use Rattle.isp_wasm_module.proofs.Written.{some_same}
use Rattle.isp_wasm_module.proofs.functions.function_of.Goals as goal

pub returns-clause-found : goal.returns-clause-found
returns-clause-found c =
    let fs = c.functions.result.now in
    let made : map routine_of fs ≡ c.args.code.now.routines = c.functions.ensures.same ∙ ap (λ (p : Listing). p.routines) c.code.ensures.same in
    let low : c.args.number < length fs = subst (λ (n : ℕ). c.args.number < n) (ap length (sym made) ∙ length-map fs routine_of) c.requires in
    routine_at c.args.code.now fs c.args.number c.index-functions-number.result made low c.index-functions-number.is

pub returns-clause-registers : goal.returns-clause-registers
returns-clause-registers c =
    let fs = c.functions.result.now in
    let made : map routine_of fs ≡ c.args.code.now.routines = c.functions.ensures.same ∙ ap (λ (p : Listing). p.routines) c.code.ensures.same in
    let low : c.args.number < length fs = subst (λ (n : ℕ). c.args.number < n) (ap length (sym made) ∙ length-map fs routine_of) c.requires in
    let found = routine_at c.args.code.now fs c.args.number c.index-functions-number.result made low c.index-functions-number.is in
    some_same (sym c.registers.ensures ∙ slice_get-map table_of c.args.code.now.routines c.args.number ∙ ap (option_map table_of) found)
