-- Which elements are reached as rows. The scalar of such an index stays in its register, which is a spare one of no later slot.
use Rattle.std.proofs.Common.{◌≡◌, ℕ, ◌+◌, ◌<◌, ◌≤◌, Bool, true, false, refl, sym, ap, ◌∙◌, arith, inl, inr}
use Rattle.std.specs.Prelude.{◌≢◌}
use Rattle.isp_base.specs.declared.types.Elem.{Elem}
use Rattle.isp_base.specs.declared.types.Rate.{Rate}
use Rattle.isp_base.specs.declared.types.Rate.TheVariants.{Uniform, Varying}
use Rattle.isp_code.specs.Conf.{Conf}
use Rattle.isp_typed.specs.Typed.{TExpr}
use Rattle.isp_lower_code.specs.Elements.{takes_row}
use Rattle.isp_lower_code.specs.Layout.{Layout, IsApart}
use Rattle.isp_lower_code.specs.Setting.{Setting, IsScalar, OfUniform, OfKnown, OfConstant, OfSlot}
use Rattle.isp_lower_code.proofs.Kept.{Keeps, Low}

-- an element of an array of rate g, at rate r, that is reached as a row
pub record TakesRow (l : Layout) (g r : Rate) (i : TExpr) (n : ℕ) : Type 0 where
  pub shared : g ≡ Uniform
  pub each : r ≡ Varying
  pub taken : l.is_row i n ≡ true

pub takes : (l : Layout) (g r : Rate) (i : TExpr) (n : ℕ) → takes_row (l.is_row i n) g r ≡ true → TakesRow l g r i n
takes l g r i n e = go (l.is_row i n) g r refl e
  where
    go : (b : Bool) (g r : Rate) → l.is_row i n ≡ b → takes_row b g r ≡ true → TakesRow l g r i n
    go true Uniform Varying is e = record { shared = refl; each = refl; taken = is }
    go true Uniform Uniform is e = absurd (cc)
    go true Varying r is e = absurd (cc)
    go false g r is e = absurd (cc)

module _ (w : Setting) where
  pub scalar_stays : (n x : ℕ) (c c' : Conf) → Keeps w (n + 1) c c' → IsScalar w n x → c'.scalars x ≡ c.scalars x
  scalar_stays n x c c' k (OfUniform v one e) = k.scalars_stay x (inl (v, refl, e, one))
  scalar_stays n x c c' k (OfKnown v is e) = ap c'.scalars e ∙ k.singles_stay v is ∙ ap c.scalars (sym e)
  scalar_stays n x c c' k (OfConstant t b kept e) = k.scalars_stay x (inr (inr (t, b, kept, e)))
  scalar_stays n x c c' k (OfSlot t e) = k.scalars_stay x (inr (inl (t, n, omega arith, e)))

  pub scalar_away : IsApart w.layout → (n x : ℕ) → IsScalar w n x → (e : Elem) (j : ℕ) → n < j → x ≢ w.layout.spare Uniform e j
  scalar_away apart n x (OfUniform v one q) e j lt = λ s. apart.variable_spare Uniform e v j (sym q ∙ s)
  scalar_away apart n x (OfKnown v is q) e j lt = λ s. apart.variable_spare Uniform e v j (sym q ∙ s)
  scalar_away apart n x (OfConstant t b kept q) e j lt = λ s. apart.kept_spare Uniform t b e j kept (sym q ∙ s)
  scalar_away apart n x (OfSlot t q) e j lt = let ne : n ≢ j = omega (arith, lt) in λ s. apart.spares Uniform t e n j ne (sym q ∙ s)

  -- nor is a low one
  pub low_away : IsApart w.layout → (r : Rate) (m x : ℕ) → Low w r m x → (e : Elem) (j : ℕ) → m ≤ j → x ≢ w.layout.spare r e j
  low_away apart r m x (inl v) e j le = λ s. apart.variable_spare r e v.0 j (sym v.2 ∙ s)
  low_away apart r m x (inr (inl u)) e j le = let lt = u.2 in let ne : u.1 ≢ j = omega (arith, lt, le) in λ s. apart.spares r u.0 e u.1 j ne (sym u.3 ∙ s)
  low_away apart r m x (inr (inr k)) e j le = λ s. apart.kept_spare r k.0 k.1 e j k.2 (sym k.3 ∙ s)
