-- A linear expression is not steady, nothing in it loads a variable, and its scalar expression has as many nodes.
use Rattle.std.proofs.Common.{◌≡◌, ℕ, suc, ◌+◌, Bool, true, false, refl, ap, ap₂, ◌∙◌, ⊎_elim}
use Rattle.std.specs.Prelude.{◌&&◌, ◌||◌}
use Rattle.isp_base.specs.declared.types.Rate.{Rate}
use Rattle.isp_base.specs.declared.types.Rate.TheVariants.{Uniform, Varying}
use Rattle.isp_typed.specs.Nodes.{exprs_nodes, typed_nodes}
use Rattle.isp_typed.specs.Typed.{TExpr, t_constant, t_program_index, t_place, t_convert, t_cast, t_unary, t_binary, t_compare, t_logic, t_choose, t_call, t_library}
use Rattle.isp_typed.specs.Typed.{t_packed_store, t_packed_load, t_variable, t_element, TExprs, t_no_exprs, t_expr_then}
use Rattle.isp_meaning.specs.Loads.{all_load, loads}
use Rattle.isp_steady.specs.Known.{Known, Unknown, Steady, Linear}
use Rattle.isp_steady.specs.Steady.{all_steady, steady, steady_read}
use Rattle.isp_steady.specs.Linear.{linear, linear_read}
use Rattle.isp_steady.specs.Alone.{all_alone, alone}
use Rattle.isp_steady.proofs.Lemmas.{both, one_of}

-- ---- the scalar expression has the same nodes

mutual
  pub alone_nodes : (x : TExpr) → typed_nodes (alone x) ≡ typed_nodes x
  alone_nodes (t_constant v sp) = refl
  alone_nodes (t_program_index sp) = refl
  alone_nodes (t_place (t_variable v t sp)) = refl
  alone_nodes (t_place (t_element b i t sp)) = ap suc (alone_nodes i)
  alone_nodes (t_convert e x) = ap suc (alone_nodes x)
  alone_nodes (t_cast x t sp) = ap suc (alone_nodes x)
  alone_nodes (t_unary o x t sp) = ap suc (alone_nodes x)
  alone_nodes (t_binary o x y t sp) = ap₂ (λ a b. suc (a + b)) (alone_nodes x) (alone_nodes y)
  alone_nodes (t_compare c x y r sp) = ap₂ (λ a b. suc (a + b)) (alone_nodes x) (alone_nodes y)
  alone_nodes (t_logic g x y r sp) = ap₂ (λ a b. suc (a + b)) (alone_nodes x) (alone_nodes y)
  alone_nodes (t_choose c x y t sp) = ap₂ (λ a b. suc (a + b)) (alone_nodes c) (ap₂ (λ a b. a + b) (alone_nodes x) (alone_nodes y))
  alone_nodes (t_call c t) = refl
  alone_nodes (t_library f e xs t sp) = ap suc (all_nodes xs)
  alone_nodes (t_packed_store b x sp) = refl
  alone_nodes (t_packed_load b v sp) = refl

  all_nodes : (xs : TExprs) → exprs_nodes (all_alone xs) ≡ exprs_nodes xs
  all_nodes t_no_exprs = refl
  all_nodes (t_expr_then x xs) = ap₂ (λ a b. a + b) (alone_nodes x) (all_nodes xs)

and_false : (b : Bool) → (b && false) ≡ false
and_false true = refl
and_false false = refl

read_not : (r : Rate) (k : Known) → linear_read r k ≡ true → steady_read r k ≡ false
read_not Uniform k e = absurd (cc)
read_not Varying Unknown e = absurd (cc)
read_not Varying Steady e = absurd (cc)
read_not Varying Linear e = refl

module _ (known : ℕ → Known) where
  pub linear_not : (x : TExpr) → linear known x ≡ true → steady known x ≡ false
  linear_not (t_program_index sp) e = refl
  linear_not (t_place (t_variable v t sp)) e = read_not t.rate (known v) e
  linear_not (t_place (t_element b i t sp)) e = absurd (cc)
  linear_not (t_convert u x) e = linear_not x (both _ _ e).0
  linear_not (t_cast x t sp) e = linear_not x e
  linear_not (t_binary o x y t sp) e =
      ⊎_elim (λ h. ap (λ b. b && steady known y) (linear_not x h.0)) (λ h. ap (λ b. steady known x && b) (linear_not y h.1) ∙ and_false (steady known x))
      (one_of o (linear known x) (steady known x) (linear known y) (steady known y) e)
  linear_not (t_constant v sp) e = absurd (cc)
  linear_not (t_unary o x t sp) e = absurd (cc)
  linear_not (t_compare c x y r sp) e = absurd (cc)
  linear_not (t_logic g x y r sp) e = absurd (cc)
  linear_not (t_choose c x y t sp) e = absurd (cc)
  linear_not (t_call c t) e = absurd (cc)
  linear_not (t_library f u xs t sp) e = absurd (cc)
  linear_not (t_packed_store b x sp) e = absurd (cc)
  linear_not (t_packed_load b v sp) e = absurd (cc)

  module _ (v : ℕ) where
    join : (a b : Bool) → a ≡ false → b ≡ false → (a || b) ≡ false
    join a b e h = ap₂ (λ c d. c || d) e h

    mutual
      steady_loads : (x : TExpr) → steady known x ≡ true → loads x v ≡ false
      steady_loads (t_constant u sp) e = refl
      steady_loads (t_program_index sp) e = refl
      steady_loads (t_place (t_variable u t sp)) e = refl
      steady_loads (t_place (t_element b i t sp)) e = steady_loads i (both _ _ e).1
      steady_loads (t_convert u x) e = steady_loads x e
      steady_loads (t_cast x t sp) e = steady_loads x e
      steady_loads (t_unary o x t sp) e = steady_loads x e
      steady_loads (t_binary o x y t sp) e = let h = both _ _ e in join (loads x v) (loads y v) (steady_loads x h.0) (steady_loads y h.1)
      steady_loads (t_compare c x y r sp) e = let h = both _ _ e in join (loads x v) (loads y v) (steady_loads x h.0) (steady_loads y h.1)
      steady_loads (t_logic g x y r sp) e = let h = both _ _ e in join (loads x v) (loads y v) (steady_loads x h.0) (steady_loads y h.1)
      steady_loads (t_choose c x y t sp) e =
          let h = both _ _ e in
          let j = both _ _ h.1 in
          join (loads c v) (loads x v || loads y v) (steady_loads c h.0) (join (loads x v) (loads y v) (steady_loads x j.0) (steady_loads y j.1))
      steady_loads (t_call c t) e = absurd (cc)
      steady_loads (t_library f u xs t sp) e = all_loads xs (both _ _ e).1
      steady_loads (t_packed_store b x sp) e = absurd (cc)
      steady_loads (t_packed_load b u sp) e = absurd (cc)

      all_loads : (xs : TExprs) → all_steady known xs ≡ true → all_load xs v ≡ false
      all_loads t_no_exprs e = refl
      all_loads (t_expr_then x xs) e = let h = both _ _ e in join (loads x v) (all_load xs v) (steady_loads x h.0) (all_loads xs h.1)

    pub linear_loads : (x : TExpr) → linear known x ≡ true → loads x v ≡ false
    linear_loads (t_program_index sp) e = refl
    linear_loads (t_place (t_variable u t sp)) e = refl
    linear_loads (t_place (t_element b i t sp)) e = absurd (cc)
    linear_loads (t_convert u x) e = linear_loads x (both _ _ e).0
    linear_loads (t_cast x t sp) e = linear_loads x e
    linear_loads (t_binary o x y t sp) e =
        ⊎_elim (λ h. join (loads x v) (loads y v) (linear_loads x h.0) (steady_loads y h.1)) (λ h. join (loads x v) (loads y v) (steady_loads x h.0) (linear_loads y h.1))
        (one_of o (linear known x) (steady known x) (linear known y) (steady known y) e)
    linear_loads (t_constant u sp) e = absurd (cc)
    linear_loads (t_unary o x t sp) e = absurd (cc)
    linear_loads (t_compare c x y r sp) e = absurd (cc)
    linear_loads (t_logic g x y r sp) e = absurd (cc)
    linear_loads (t_choose c x y t sp) e = absurd (cc)
    linear_loads (t_call c t) e = absurd (cc)
    linear_loads (t_library f u xs t sp) e = absurd (cc)
    linear_loads (t_packed_store b x sp) e = absurd (cc)
    linear_loads (t_packed_load b u sp) e = absurd (cc)
