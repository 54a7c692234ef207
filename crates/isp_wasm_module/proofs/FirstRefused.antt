-- The first function that is refused, one function further.
use Rattle.std.proofs.Common.{◌≡◌, ℕ, zero, suc, ◌+◌, ◌≤◌, List, [], ◌∷◌, length, drop, Bool, true, false, Option, Some, None, refl, ap, sym, subst, ◌∙◌, arith}
use Rattle.std.proofs.lemmas.List.{drop_all}
use Rattle.std.specs.Prelude.{slice_get, ◌&&◌, if◌then◌else◌}
use Rattle.isp_base.specs.Types.{gang_width}
use Rattle.isp_code.specs.Listing.{Listing, Routine}
use Rattle.isp_wasm.specs.Module.{is_covered, is_called, all_plain}
use Rattle.isp_wasm_write.specs.Limits.{limit_fault}
use Rattle.isp_wasm_write.specs.declared.kernel.Caller.TheVariants.{Host, Function}
use Rattle.isp_wasm_write.specs.declared.refusal.Refusal.{Refusal as Limit}
use Rattle.isp_wasm_write.specs.declared.refusal.Refusal.TheVariants as limits
use Rattle.isp_wasm_module.specs.declared.refusal.Refusal.{Refusal}
use Rattle.isp_wasm_module.specs.Refused.{named, exported_refusal, inner_refusal, function_refusal, or_later, first_refusal, module_refusal, explains}
use Rattle.isp_wasm_module.specs.declared.refusal.Refusal.TheVariants.{NotCovered}

next_is : (code : Listing) (n : ℕ) (h : Routine) → slice_get code.routines n ≡ Some h
    → first_refusal code n (drop n code.routines) ≡ or_later (function_refusal code n h) (first_refusal code (n + 1) (drop (n + 1) code.routines))
next_is code n h e =
    by n code.routines e ∙ ap (λ m. or_later (function_refusal code n h) (first_refusal code m (drop m code.routines))) (let same : suc n ≡ n + 1 = omega arith in same)
  where
    by : (i : ℕ) (hs : List Routine) → slice_get hs i ≡ Some h → first_refusal code n (drop i hs) ≡ or_later (function_refusal code n h) (first_refusal code (suc n) (drop (suc i) hs))
    by i [] e = cc
    by zero (k ∷ hs) e = ap (λ j. or_later (function_refusal code n j) (first_refusal code (suc n) hs)) (let same : k ≡ h = cc in same)
    by (suc i) (k ∷ hs) e = by i hs e

pub none_left : (code : Listing) (n : ℕ) → length code.routines ≤ n → first_refusal code n (drop n code.routines) ≡ None
none_left code n h = ap (first_refusal code n) (drop_all n code.routines h)

-- it is not this one
pub kept : (code : Listing) (n : ℕ) (h : Routine) (r : Option Refusal) → slice_get code.routines n ≡ Some h → function_refusal code n h ≡ None
    → first_refusal code n (drop n code.routines) ≡ r → first_refusal code (n + 1) (drop (n + 1) code.routines) ≡ r
kept code n h r e f g = sym (next_is code n h e ∙ ap (λ o. or_later o (first_refusal code (n + 1) (drop (n + 1) code.routines))) f) ∙ g

-- it is
pub found : (code : Listing) (n : ℕ) (h : Routine) (x : Refusal) (r : Option Refusal) → slice_get code.routines n ≡ Some h → function_refusal code n h ≡ Some x
    → first_refusal code n (drop n code.routines) ≡ r → Some x ≡ r
found code n h x r e f g = sym (next_is code n h e ∙ ap (λ o. or_later o (first_refusal code (n + 1) (drop (n + 1) code.routines))) f) ∙ g

-- ---- what is refused is none of what only writing meets

abbrev own : Option Refusal → Type 0
own None = Unit
own (Some r) = explains r (Some r)

own_named : (f : ℕ) (l : Option Limit) → own (named f l)
own_named f None = tt
own_named f (Some limits.Memory) = tt
own_named f (Some limits.NoLocal) = tt
own_named f (Some limits.TooManyParameters) = refl
own_named f (Some limits.TooManyLocals) = refl
own_named f (Some limits.TooLong) = tt

own_later : (a b : Option Refusal) → own a → own b → own (or_later a b)
own_later None b p q = q
own_later (Some r) b p q = p

own_exported : (x y : Bool) (f : ℕ) (o : Option Refusal) → own o → own (if x then (if y then o else Some (NotCovered f)) else None)
own_exported true true f o p = p
own_exported true false f o p = refl
own_exported false y f o p = tt

own_inner : (x : Bool) (o : Option Refusal) → own o → own (if x then o else None)
own_inner true o p = p
own_inner false o p = tt

own_function : (code : Listing) (f : ℕ) (h : Routine) → own (function_refusal code f h)
own_function code f h =
    let host = limit_fault Host (gang_width code.gang) h in
    let inner = limit_fault Function (gang_width code.gang) h in
    own_later (exported_refusal code f h) (inner_refusal code f h) (own_exported h.exported (is_covered code h) f (named f host) (own_named f host))
    (own_inner (is_called code f && all_plain code) (named f inner) (own_named f inner))

own_first : (code : Listing) (f : ℕ) (hs : List Routine) → own (first_refusal code f hs)
own_first code f [] = tt
own_first code f (h ∷ hs) = own_later (function_refusal code f h) (first_refusal code (suc f) hs) (own_function code f h) (own_first code (suc f) hs)

pub explained : (code : Listing) (r : Refusal) → module_refusal code ≡ Some r → explains r (module_refusal code)
explained code r e =
    subst (λ (o : Option Refusal). explains r o) (sym e) (subst (λ (o : Option Refusal). own o) e (own_first code 0 code.routines))
