-- A program of one function that calls none: it is independent where the function by itself breaks no restriction.
use Rattle.std.specs.Prelude.{◌≡◌, ℕ, zero, suc, [], ◌∷◌, Some}
use Rattle.std.proofs.Common.{inl, inr, subst, sym}
use native.Mathlib.Omega.{arith}
use Rattle.isp_base.specs.declared.types.Gang.{Gang}
use Rattle.isp_typed.specs.Typed.{TFunction}
use Rattle.isp_independence.specs.declared.dependence.Dependence.{Dependence}
use Rattle.isp_independence.specs.Independent.{EntryDepends, IsIndependent}
use Rattle.isp_independence.specs.Reaches.{Calls, function_calls}

calls_none : (g : TFunction) → function_calls g ≡ [] → (caller called : ℕ) → Calls (g ∷ []) caller called → ⊥
calls_none g e zero called c = grind (arith, c.by.1, c.by.2.1, e)
calls_none g e (suc n) called c = grind (arith, c.by.1)

same : (g h : TFunction) → Some g ≡ Some h → g ≡ h
same g h e = grind (arith, e)

pub independent_alone : (gang : Gang) (g : TFunction) → function_calls g ≡ [] → ((d : Dependence) → EntryDepends g d → ⊥) → IsIndependent (record { gang = gang; functions = g ∷ [] }) 0
independent_alone gang g e h d (inl x) = h d (subst (λ f. EntryDepends f d) (sym (same g x.0 x.1)) x.2)
independent_alone gang g e h d (inr y) = calls_none g e y.2.caller y.0 y.2.calls
