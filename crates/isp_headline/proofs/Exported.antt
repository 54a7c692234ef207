-- What the module of some code exports under a name.
use Rattle.std.proofs.Common.{◌≡◌, ◌⊎◌, inl, inr, ℕ, zero, suc, List, [], ◌∷◌, ◌++◌, Bool, true, false, Some, None, refl, sym, ap, ◌∙◌, subst}
use Rattle.std.specs.Prelude.{◌&&◌, ◌↔◌, if◌then◌else◌, slice_get}
use Rattle.std.specs.List.{list_any}
use Rattle.isp_code.specs.Entries as code
use Rattle.isp_code.specs.Listing.{Listing, Routine}
use Rattle.isp_forms.specs.Runs.{Forms}
use Rattle.isp_wasm_meaning.specs.Module.{Function, unused}
use Rattle.isp_wasm.specs.Module.{is_covered, is_called, all_plain, kernel_of, function_of, inner_of, inner_function, each_function, module_with}
use Rattle.isp_wasm.specs.Stack.{has_call}
use Rattle.isp_headline.specs.ModuleHeadline.{IsExported}

-- ---- lists

same_some : {A : Type 0} (x y : A) → Some x ≡ Some y → x ≡ y
same_some x y e = cc

-- the function that is made of a routine, with something after all of them
made_get : (make : ℕ → Routine → Function) (i : ℕ) (hs : List Routine) (ys : List Function) (k : ℕ) (h : Routine) → slice_get hs k ≡ Some h → (n : ℕ) × (slice_get (each_function make i hs ++ ys) k ≡ Some (make n h))
made_get make i [] ys k h e = absurd (let no : ⊥ = cc in no)
made_get make i (g ∷ hs) ys zero h e = (i, ap (λ z. Some (make i z)) (same_some g h e))
made_get make i (g ∷ hs) ys (suc k) h e = made_get make (suc i) hs ys k h e

-- and each is one of these, or stands after them
abbrev Of : (ℕ → Routine → Function) → List Routine → List Function → ℕ → Function → Type 0
Of make hs ys k g = ((h : Routine) × (n : ℕ) × (slice_get hs k ≡ Some h) × (make n h ≡ g)) ⊎ ((j : ℕ) × (slice_get ys j ≡ Some g))

get_made : (make : ℕ → Routine → Function) (i : ℕ) (hs : List Routine) (ys : List Function) (k : ℕ) (g : Function) → slice_get (each_function make i hs ++ ys) k ≡ Some g → Of make hs ys k g
get_made make i [] ys k g e = inr (k, e)
get_made make i (h ∷ hs) ys zero g e = inl (h, i, refl, same_some (make i h) g e)
get_made make i (h ∷ hs) ys (suc k) g e = get_made make (suc i) hs ys k g e

-- ---- functions that others call

none_is : (g : Function) (name : List ℕ) → g.export ≡ None → g.export ≡ Some name → ⊥
none_is g name a b = let clash : None ≡ Some name = sym a ∙ b in cc

module _ (image : Listing) (forms : Forms) where
  inner_unnamed : (b : Bool) (n : ℕ) (h : Routine) → (if b then inner_of image forms n h else unused).export ≡ None
  inner_unnamed true n h = refl
  inner_unnamed false n h = refl

  inner_none : (hs : List Routine) (f j : ℕ) (g : Function) → slice_get (each_function (inner_function image forms) f hs) j ≡ Some g → g.export ≡ None
  inner_none [] f j g e = absurd (let no : ⊥ = cc in no)
  inner_none (h ∷ hs) f zero g e = ap (λ (z : Function). z.export) (sym (same_some _ g e)) ∙ inner_unnamed (is_called image f && all_plain image) f h
  inner_none (h ∷ hs) f (suc j) g e = inner_none hs (suc f) j g e

  behind_none : (b : Bool) (j : ℕ) (g : Function) → slice_get (if b then each_function (inner_function image forms) 0 image.routines else []) j ≡ Some g → g.export ≡ None
  behind_none true j g e = inner_none image.routines 0 j g e
  behind_none false j g e = absurd (let no : ⊥ = cc in no)

  -- ---- functions that a host calls

  kernel_named : (h : Routine) (n : ℕ) (a b : Bool) → a ≡ true → b ≡ true → (if a && b then kernel_of image forms n h else unused).export ≡ Some h.name
  kernel_named h n true true x y = refl
  kernel_named h n true false x y = absurd (let no : ⊥ = cc in no)
  kernel_named h n false b x y = absurd (let no : ⊥ = cc in no)

  named_kernel : (h : Routine) (n : ℕ) (a b : Bool) (name : List ℕ) → (if a && b then kernel_of image forms n h else unused).export ≡ Some name → (a ≡ true) × (h.name ≡ name)
  named_kernel h n true true name e = (refl, same_some h.name name e)
  named_kernel h n true false name e = absurd (let no : ⊥ = cc in no)
  named_kernel h n false b name e = absurd (let no : ⊥ = cc in no)

  exported : (name : List ℕ) (f : ℕ) (h : Routine) → code.IsExport image name f h → is_covered image h ≡ true → IsExported (module_with image forms) name f
  exported name f h x covered =
      let it = made_get (function_of image forms) 0 image.routines (if list_any has_call image.routines then each_function (inner_function image forms) 0 image.routines else []) f h x.found in
      (function_of image forms it.0 h, it.1, kernel_named h it.0 h.exported (is_covered image h) x.exported covered ∙ ap Some x.named)

  is_export : (name : List ℕ) (k : ℕ) (g : Function) → g.export ≡ Some name
      → Of (function_of image forms) image.routines (if list_any has_call image.routines then each_function (inner_function image forms) 0 image.routines else []) k g → (h : Routine) × code.IsExport image name k h
  is_export name k g named (inl (h, n, found, is)) =
      let it = named_kernel h n h.exported (is_covered image h) name (ap (λ (z : Function). z.export) is ∙ named) in
      (h, record { found = found; named = it.1; exported = it.0 })
  is_export name k g named (inr (j, found)) = absurd (none_is g name (behind_none (list_any has_call image.routines) j g found) named)

  exports_only : (name : List ℕ) (k : ℕ) → IsExported (module_with image forms) name k → (h : Routine) × code.IsExport image name k h
  exports_only name k x =
      is_export name k x.0 x.2 (get_made (function_of image forms) 0 image.routines (if list_any has_call image.routines then each_function (inner_function image forms) 0 image.routines else []) k x.0 x.1)

  -- the module exports one function under the name of one of the code
  pub one_exported : (name : List ℕ) (f : ℕ) (h : Routine) → code.IsExport image name f h → ((k : ℕ) (g : Routine) → code.IsExport image name k g → (k ≡ f) × (g ≡ h))
      → is_covered image h ≡ true → (k : ℕ) → IsExported (module_with image forms) name k ↔ (k ≡ f)
  one_exported name f h x only covered k = (
    (λ m. let y = exports_only name k m in (only k y.0 y.1).0),
    (λ e. subst (IsExported (module_with image forms) name) (sym e) (exported name f h x covered)),
  )
