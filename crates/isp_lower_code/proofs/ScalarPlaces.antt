-- The code of a scalar expression names the places of the source that the expression's own code names.
use Rattle.std.proofs.Common.{◌≡◌, ℕ, ◌∷◌, [], ◌++◌, List, Bool, true, false, refl, ap, ap₂, ⊎_elim}
use Rattle.std.specs.Prelude.{◌||◌}
use Rattle.isp_base.specs.declared.types.Span.{Span}
use Rattle.isp_typed.specs.Typed.{TExpr, t_constant, t_program_index, t_place, t_convert, t_cast, t_unary, t_binary, t_compare, t_logic, t_choose, t_call, t_library}
use Rattle.isp_typed.specs.Typed.{t_packed_store, t_packed_load, t_variable, t_element, TExprs, t_no_exprs, t_expr_then}
use Rattle.isp_steady.specs.Known.{Known}
use Rattle.isp_steady.specs.Steady.{steady, all_steady}
use Rattle.isp_steady.specs.Linear.{linear}
use Rattle.isp_steady.specs.Alone.{alone, all_alone}
use Rattle.isp_steady.proofs.Lemmas.{both, one_of}
use Rattle.isp_lower_code.specs.Instructions.{operate_places}
use Rattle.isp_lower_code.specs.Layout.{Layout}
use Rattle.isp_lower_code.specs.Scalar.{ScalarPlaces}
use Rattle.isp_lower_code.specs.Spans.{expr_places, values_places}

module _ (l k : Layout) (known : ℕ → Known) where
  mutual
    steady_places : (x : TExpr) → steady known x ≡ true → expr_places l (alone x) ≡ expr_places k x
    steady_places (t_constant v sp) e = refl
    steady_places (t_program_index sp) e = absurd (cc)
    steady_places (t_place (t_variable v t sp)) e = refl
    steady_places (t_place (t_element b i t sp)) e = ap (λ ps. ps ++ sp ∷ []) (steady_places i (both _ _ e).1)
    steady_places (t_convert t x) e = steady_places x e
    steady_places (t_cast x t sp) e = steady_places x e
    steady_places (t_unary o x t sp) e = steady_places x e
    steady_places (t_binary o x y t sp) e =
        let h = both _ _ e in
        ap₂ (λ (ps qs : List Span). ps ++ (qs ++ operate_places o sp)) (steady_places x h.0) (steady_places y h.1)
    steady_places (t_compare c x y r sp) e = let h = both _ _ e in ap₂ (λ (ps qs : List Span). ps ++ qs) (steady_places x h.0) (steady_places y h.1)
    steady_places (t_logic g x y r sp) e = let h = both _ _ e in ap₂ (λ (ps qs : List Span). ps ++ qs) (steady_places x h.0) (steady_places y h.1)
    steady_places (t_choose c x y t sp) e =
        let h = both _ _ e in
        let j = both _ _ h.1 in
        ap₂ (λ (ps qs : List Span). ps ++ qs) (steady_places c h.0) (ap₂ (λ (ps qs : List Span). ps ++ qs) (steady_places x j.0) (steady_places y j.1))
    steady_places (t_call c t) e = absurd (cc)
    steady_places (t_library f t xs ty sp) e = all_places xs (both _ _ e).1
    steady_places (t_packed_store b x sp) e = absurd (cc)
    steady_places (t_packed_load b v sp) e = absurd (cc)

    all_places : (xs : TExprs) → all_steady known xs ≡ true → values_places l (all_alone xs) ≡ values_places k xs
    all_places t_no_exprs e = refl
    all_places (t_expr_then x xs) e = let h = both _ _ e in ap₂ (λ (ps qs : List Span). ps ++ qs) (steady_places x h.0) (all_places xs h.1)

  linear_places : (x : TExpr) → linear known x ≡ true → expr_places l (alone x) ≡ expr_places k x
  linear_places (t_program_index sp) e = refl
  linear_places (t_place (t_variable v t sp)) e = refl
  linear_places (t_place (t_element b i t sp)) e = absurd (cc)
  linear_places (t_convert t x) e = linear_places x (both _ _ e).0
  linear_places (t_cast x t sp) e = linear_places x e
  linear_places (t_binary o x y t sp) e =
      let join = λ (ps qs : List Span). ps ++ (qs ++ operate_places o sp) in
      ⊎_elim (λ h. ap₂ join (linear_places x h.0) (steady_places y h.1)) (λ h. ap₂ join (steady_places x h.0) (linear_places y h.1))
      (one_of o (linear known x) (steady known x) (linear known y) (steady known y) e)
  linear_places (t_constant v sp) e = absurd (cc)
  linear_places (t_unary o x t sp) e = absurd (cc)
  linear_places (t_compare c x y r sp) e = absurd (cc)
  linear_places (t_logic g x y r sp) e = absurd (cc)
  linear_places (t_choose c x y t sp) e = absurd (cc)
  linear_places (t_call c t) e = absurd (cc)
  linear_places (t_library f t xs ty sp) e = absurd (cc)
  linear_places (t_packed_store b x sp) e = absurd (cc)
  linear_places (t_packed_load b v sp) e = absurd (cc)

  -- by whatever layout: places are those of the source
  pub places_by : (x : TExpr) → (steady known x || linear known x) ≡ true → expr_places l (alone x) ≡ expr_places k x
  places_by x e = by (steady known x) refl e
    where
      by : (b : Bool) → steady known x ≡ b → (b || linear known x) ≡ true → expr_places l (alone x) ≡ expr_places k x
      by true h o = steady_places x h
      by false h o = linear_places x o

pub scalar_places : ScalarPlaces
scalar_places l known x e = places_by l l known x e
