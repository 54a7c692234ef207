-- What the breaches of a program are, by those of its functions.
use Rattle.std.proofs.Common.{◌≡◌, sym, ap, ◌∙◌, subst, ℕ, zero, suc, ◌⊎◌, inl, inr, [], ◌∷◌, Some, arith}
use Rattle.std.specs.Prelude.{slice_get}
use Rattle.isp_typed.specs.Typed.{TFunction}
use Rattle.isp_independence.specs.declared.dependence.Dependence.{Dependence}
use Rattle.isp_independence.specs.Independent.{EntryDepends, CalledDepends, Depends}
use Rattle.isp_independence.specs.Reaches.{Calls, function_calls}
use Rattle.isp_meaning_laws.specs.Words.{program}

same : (g h : TFunction) → Some g ≡ Some h → g ≡ h
same g h e = grind (arith, e)

-- ---- one function, which calls none

calls_none : (g : TFunction) → function_calls g ≡ [] → (caller called : ℕ) → Calls (g ∷ []) caller called → ⊥
calls_none g e zero called c = grind (arith, c.by.1, c.by.2.1, e)
calls_none g e (suc n) called c = grind (arith, c.by.1)

pub of_one : (g : TFunction) → function_calls g ≡ [] → (d : Dependence) → Depends (program (g ∷ [])) 0 d → EntryDepends g d
of_one g e d (inl x) = subst (λ f. EntryDepends f d) (sym (same g x.0 x.1)) x.2
of_one g e d (inr y) = absurd (calls_none g e y.2.caller y.0 y.2.calls)

-- ---- two functions, of which the second is the entry and calls the first

calls_first : (g f : TFunction) → function_calls g ≡ [] → function_calls f ≡ 0 ∷ [] → (caller called : ℕ) → Calls (g ∷ f ∷ []) caller called → called ≡ 0
calls_first g f e k zero called c = grind (arith, c.by.1, c.by.2.1, e)
calls_first g f e k (suc zero) called c = grind (arith, c.by.1, c.by.2.1, c.by.2.2, k)
calls_first g f e k (suc (suc n)) called c = grind (arith, c.by.1)

pub of_two : (g f : TFunction) → function_calls g ≡ [] → function_calls f ≡ 0 ∷ [] → (d : Dependence) → Depends (program (g ∷ f ∷ [])) 1 d → EntryDepends f d ⊎ CalledDepends g d
of_two g f e k d (inl x) = inl (subst (λ h. EntryDepends h d) (sym (same f x.0 x.1)) x.2)
of_two g f e k d (inr y) =
    let first = calls_first g f e k y.2.caller y.0 y.2.calls in
    inr (subst (λ h. CalledDepends h d) (sym (same g y.1 (sym (ap (λ n. slice_get (g ∷ f ∷ []) n) first) ∙ y.3))) y.4)
