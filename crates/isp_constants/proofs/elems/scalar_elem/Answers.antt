use Rattle.std.proofs.Common.{◌≡◌, ◌≢◌, ℕ, zero, suc, ◌+◌, ◌-◌, ◌<◌, List, ◌∷◌, ◌++◌, length, drop, get_or, true, false, refl, sym, ap, ◌∙◌, subst, arith}
use Rattle.std.specs.Prelude.{slice_index_or}
use Rattle.std.proofs.lemmas.List.{at_drop_more}
use Rattle.isp_base.specs.declared.types.Elem.{Elem}
use Rattle.isp_base.specs.declared.types.Elem.TheVariants.{Bool as Truth}
use Rattle.isp_code.specs.Registers.{class_of, if_class, param_elems, same_class}
use Rattle.isp_code.specs.declared.function.Param.{Param}
use Rattle.isp_code.specs.declared.register.Class.TheVariants.{Scalar}
use Rattle.isp_constants.proofs.elems.scalar_elem.Goals as goal
use Rattle.isp_constants.proofs.elems.scalar_elem.Goals.{then-is_scalar+else-left-eq0, else-is_scalar}

abbrev type_at : List Elem → List Param → ℕ → Elem
type_at rest ps n = slice_index_or (param_elems Scalar ps ++ rest) n Truth

module _ (rest : List Elem) (ps : List Param) (i : ℕ) (p : Param) (inside : i < length ps) (is : p ≡ get_or ps i p) where
  one_more : (n : ℕ) → type_at rest (drop i ps) n ≡ type_at rest (p ∷ drop (i + 1) ps) n
  one_more n = at_drop_more (λ qs. type_at rest qs n) ps i p inside ∙ ap (λ q. type_at rest (q ∷ drop (i + 1) ps) n) (sym is)

  -- a parameter that is no scalar, and one that is
  skipped : same_class (class_of p.kind) Scalar ≡ false → (n : ℕ) → type_at rest (drop i ps) n ≡ type_at rest (drop (i + 1) ps) n
  skipped e n = one_more n ∙ ap (λ b. slice_index_or (if_class b p.elem (param_elems Scalar (drop (i + 1) ps)) ++ rest) n Truth) e

  passed : same_class (class_of p.kind) Scalar ≡ true → (n : ℕ) → n ≢ 0 → type_at rest (drop i ps) n ≡ type_at rest (drop (i + 1) ps) (n - 1)
  passed e zero some = absurd (some refl)
  passed e (suc n) some =
      one_more (suc n) ∙ ap (λ b. slice_index_or (if_class b p.elem (param_elems Scalar (drop (i + 1) ps)) ++ rest) (suc n) Truth) e
      ∙ (let less : n ≡ suc n - 1 = omega arith in ap (type_at rest (drop (i + 1) ps)) less)

pub loop-param-preserved : goal.loop-param-preserved
loop-param-preserved c =
    elim c.if-is_scalar.branch [
      | then-is_scalar+else-left-eq0 w ↦ (
          c.loop-param.invariant ∙ passed c.args.function.now.scalars.items c.args.function.now.params.items c.loop-param.param-index c.param-item.result inside is (sym c.is_scalar.ensures ∙ w.if-is_scalar.true) c.loop-param.left w.if-left-eq0.false
          ∙ ap (type_at c.args.function.now.scalars.items (drop (c.loop-param.param-index + 1) c.args.function.now.params.items)) (sym w.left-is)
          )
      | else-is_scalar w ↦ (
          c.loop-param.invariant ∙ skipped c.args.function.now.scalars.items c.args.function.now.params.items c.loop-param.param-index c.param-item.result inside is (sym c.is_scalar.ensures ∙ w.if-is_scalar.false) c.loop-param.left
          ∙ ap (type_at c.args.function.now.scalars.items (drop (c.loop-param.param-index + 1) c.args.function.now.params.items)) (sym w.left-is)
          )
    ]
  where
    inside : c.loop-param.param-index < length c.args.function.now.params.items
    inside = subst (λ xs. c.loop-param.param-index < length xs) c.deref-param-items.ensures.value c.loop-param-test.true

    is : c.param-item.result ≡ get_or c.args.function.now.params.items c.loop-param.param-index c.param-item.result
    is = subst (λ xs. c.param-item.result ≡ get_or xs c.loop-param.param-index c.param-item.result) c.deref-param-items.ensures.value c.param-item.is
