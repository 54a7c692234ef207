-- What an operator gives over neighbouring lanes, and over twice as many.
use Rattle.std.proofs.Common.{◌≡◌, refl, sym, ap, ap₂, ◌∙◌, ℕ, zero, suc, ◌+◌, ◌-◌, ◌≤◌, Bool, true, false, cond, nat_lt, ltb-true, ltb-false, le-ltb, arith, Option, Some, None}
use Rattle.isp_base.specs.Cross.{and_this, fold_below}
use Rattle.isp_base.specs.Maps.{Map, or_old}

-- f joins values that meet P, in any grouping, and e changes none
pub record Joins (P : ℕ → Type 0) (f : ℕ → ℕ → ℕ) (e : ℕ) : Type 0 where
  pub unit : P e
  pub closed : (a b : ℕ) → P a → P b → P (f a b)
  pub left : (a : ℕ) → P a → f e a ≡ a
  pub right : (a : ℕ) → P a → f a e ≡ a
  pub groups : (a b c : ℕ) → P a → P b → P c → f (f a b) c ≡ f a (f b c)

-- f over the n lanes from a on
abbrev pub span : (ℕ → ℕ → ℕ) → ℕ → (ℕ → ℕ) → ℕ → ℕ → ℕ
span f e y a zero = e
span f e y a (suc n) = f (span f e y a n) (y (a + n))

-- f over the d lanes below p, or over all that there are
abbrev pub window : (ℕ → ℕ → ℕ) → ℕ → (ℕ → ℕ) → ℕ → ℕ → ℕ
window f e y d p = span f e y (p - d) (p - (p - d))

-- the lane d below p, and e where there is none
abbrev pub lower_or : ℕ → ℕ → (ℕ → ℕ) → ℕ → ℕ
lower_or e d z p = cond (nat_lt p d) e (z (p - d))

module _ {P : ℕ → Type 0} {f : ℕ → ℕ → ℕ} {e : ℕ} (j : Joins P f e) (y : ℕ → ℕ) (fits : (p : ℕ) → P (y p)) where
  pub span_in : (a n : ℕ) → P (span f e y a n)
  span_in a zero = j.unit
  span_in a (suc n) = j.closed _ _ (span_in a n) (fits (a + n))

  span_joined : (a m n : ℕ) → f (span f e y a m) (span f e y (a + m) n) ≡ span f e y a (m + n)
  span_joined a m zero = j.right _ (span_in a m) ∙ ap (span f e y a) (let i : m ≡ m + 0 = omega arith in i)
  span_joined a m (suc n) =
      sym (j.groups _ _ _ (span_in a m) (span_in (a + m) n) (fits (a + m + n)))
      ∙ ap₂ f (span_joined a m n) (ap y (let i : a + m + n ≡ a + (m + n) = omega arith in i))
      ∙ ap (span f e y a) (let i : suc (m + n) ≡ m + suc n = omega arith in i)

  -- before the first step: one lane
  pub window_one : (p : ℕ) → lower_or e 1 y p ≡ window f e y 1 p
  window_one zero = refl
  window_one (suc p) =
      let from : suc p - 1 ≡ p = omega arith in
      let many : suc p - (suc p - 1) ≡ 1 = omega arith in
      let one : span f e y p 1 ≡ y p = j.left _ (fits (p + 0)) ∙ ap y (let i : p + 0 ≡ p = omega arith in i) in
      ap (λ t. cond t e (y (suc p - 1))) (le-ltb (suc p) 1 (omega arith)) ∙ ap y from ∙ sym one ∙ sym (ap₂ (span f e y) from many)

  -- a step: twice as many
  pub window_twice : (d p : ℕ) → f (lower_or e d (window f e y d) p) (window f e y d p) ≡ window f e y (d + d) p
  window_twice d p = by (nat_lt p d) refl
    where
      by : (b : Bool) → nat_lt p d ≡ b → f (lower_or e d (window f e y d) p) (window f e y d p) ≡ window f e y (d + d) p
      by true c =
          let l = ltb-true _ _ c in
          let none : p - d ≡ p - (d + d) = omega (arith, l) in
          ap (λ t. f (cond t e (window f e y d (p - d))) (window f e y d p)) c
          ∙ j.left _ (span_in (p - d) (p - (p - d)))
          ∙ ap (λ a. span f e y a (p - a)) none
      by false c =
          let l : d ≤ p = ltb-false _ _ c in
          let a = p - (d + d) in
          let m = p - d - a in
          let from : p - d - d ≡ a = omega (arith, l) in
          let back : p - d ≡ a + m = omega (arith, l) in
          let all : m + (p - (p - d)) ≡ p - a = omega (arith, l) in
          ap (λ t. f (cond t e (window f e y d (p - d))) (window f e y d p)) c
          ∙ ap₂ f (ap (λ b. span f e y b (p - d - b)) from) (ap (λ b. span f e y b (p - (p - d))) back)
          ∙ span_joined a m (p - (p - d))
          ∙ ap (span f e y a) all

  -- after the last: all lower lanes
  pub window_all : (d p : ℕ) → p ≤ d → window f e y d p ≡ span f e y 0 p
  window_all d p h = ap (λ a. span f e y a (p - a)) (let i : p - d ≡ 0 = omega (arith, h) in i) ∙ ap (span f e y 0) (let i : p - 0 ≡ p = omega arith in i)

with_none : {P : ℕ → Type 0} {f : ℕ → ℕ → ℕ} {e : ℕ} (j : Joins P f e) (a : ℕ) → P a → (v : Option ℕ) → f a (or_old v e) ≡ and_this f a v
with_none j a p None = j.right a p
with_none j a p (Some b) = refl

-- a lane without a value counts as e
pub fold_is_span : {P : ℕ → Type 0} {f : ℕ → ℕ → ℕ} {e : ℕ} (j : Joins P f e) (x : Map) → ((p : ℕ) → P (or_old (x p) e)) → (n : ℕ) → span f e (λ p. or_old (x p) e) 0 n ≡ fold_below f e x n
fold_is_span j x fits zero = refl
fold_is_span {f = f} {e = e} j x fits (suc n) =
    let y : ℕ → ℕ = λ p. or_old (x p) e in
    ap (λ q. f (span f e y 0 n) (y q)) (let i : 0 + n ≡ n = omega arith in i)
    ∙ with_none j (span f e y 0 n) (span_in j y fits 0 n) (x n)
    ∙ ap (λ a. and_this f a (x n)) (fold_is_span j x fits n)
