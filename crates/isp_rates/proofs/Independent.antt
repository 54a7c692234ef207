-- The breach that is kept for an exported function.
use Rattle.std.proofs.Common.{◌≡◌, ℕ, suc, ◌+◌, ◌<◌, Bool, true, false, cond, sym, subst, arith, get_or}
use Rattle.std.specs.Prelude.{Option, Some, None, List, [], ◌∷◌, length, slice_get}
use Rattle.std.proofs.lemmas.Option.{slice_get-get_or}
use Rattle.std.proofs.lemmas.List.{length-map}
use Rattle.isp_typed.specs.declared.function.Program as rust
use Rattle.isp_typed.specs.declared.function.TypedFunction.{TypedFunction}
use Rattle.isp_typed.specs.Views.{function_of, program_of}
use Rattle.isp_independence.specs.declared.dependence.Dependence.{Dependence}
use Rattle.isp_independence.specs.Dependences.{Answered}
use Rattle.isp_independence.specs.Independent.{AreDependences, Depends}
use Rattle.isp_rates.specs.Exports.{is_entry, entry_from}

entry_within : (w : List ℕ) (n : ℕ) (gs : List TypedFunction) (f : ℕ) → entry_from w n gs ≡ Some f → f < n + length gs
entry_within w n [] f e = absurd (let no : ⊥ = cc in no)
entry_within w n (g ∷ gs) f e = go (entry_within w (suc n) gs f) (is_entry w g) e
  where
    go : (entry_from w (suc n) gs ≡ Some f → f < suc n + length gs) → (t : Bool) → cond t (Some n) (entry_from w (suc n) gs) ≡ Some f → f < n + suc (length gs)
    go later true k = let same : n ≡ f = cc in omega (arith, same)
    go later false k = omega (arith, later k)

pub kept_breach : (p : rust.Program) (all : List (Option Dependence)) (w : List ℕ) (f : ℕ) (r : Option Dependence) → AreDependences (program_of p) all
    → entry_from w 0 p.functions.items ≡ Some f → ((o : Option Dependence) → slice_get all f ≡ Some o → r ≡ o) → Answered r (Depends (program_of p) f)
kept_breach p all w f r a e is =
    let within : f < length all = omega (arith, entry_within w 0 p.functions.items f e, a.long, length-map p.functions.items function_of) in
    let here = slice_get-get_or all f None within in
    subst (λ o. Answered o (Depends (program_of p) f)) (sym (is (get_or all f None) here)) (a.each f (get_or all f None) here)
