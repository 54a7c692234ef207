-- Sets that grow, and sets of a gang.
use Rattle.std.proofs.Common.{◌≡◌, ℕ, zero, suc, ◌<◌, ◌⊎◌, inl, inr, Bool, true, false, refl, sym, ap, ◌∙◌, arith}
use Rattle.std.specs.Prelude.{◌||◌, ◌&&◌, not}
use Rattle.std.proofs.Math.Path.{fun_ext}
use Rattle.std.proofs.lemmas.Bool.{cases_eq}
use Rattle.isp_base.specs.Sets.{Mask, nobody, union, without, any, all}

pub union_nobody : (a : Mask) → union a nobody ≡ a
union_nobody a = fun_ext (λ p. at (a p))
  where
    at : (b : Bool) → (b || false) ≡ b
    at true = refl
    at false = refl

pub union_assoc : (a b c : Mask) → union (union a b) c ≡ union a (union b c)
union_assoc a b c = fun_ext (λ p. at (a p) (b p) (c p))
  where
    at : (x y z : Bool) → ((x || y) || z) ≡ (x || (y || z))
    at true y z = refl
    at false y z = refl

pub without_nobody : (a : Mask) → without a nobody ≡ a
without_nobody a = fun_ext (λ p. at (a p))
  where
    at : (b : Bool) → (b && true) ≡ b
    at true = refl
    at false = refl

pub without_self : (a : Mask) → without a a ≡ nobody
without_self a = fun_ext (λ p. at (a p))
  where
    at : (b : Bool) → (b && not b) ≡ false
    at true = refl
    at false = refl

pub both_so : (a b : Bool) → (a && b) ≡ true → (a ≡ true) × (b ≡ true)
both_so true b e = (refl, e)
both_so false b e = absurd (cc)

pub neither : (a b : Bool) → (a || b) ≡ false → (a ≡ false) × (b ≡ false)
neither true b e = absurd (cc)
neither false b e = (refl, e)

-- a set that has each of the first n has those below n
in_all : (n : ℕ) (a : Mask) → all n a ≡ true → (p : ℕ) → p < n → a p ≡ true
in_all zero a h p lt = absurd (omega (arith, lt))
in_all (suc n) a h p lt =
    let parts = both_so (all n a) (a n) h in
    go parts.1 (cases_eq p n) (λ ne. in_all n a parts.0 p (omega (arith, lt, ne)))
  where
    go : a n ≡ true → (p ≡ n) ⊎ (p ≡ n → ⊥) → ((p ≡ n → ⊥) → a p ≡ true) → a p ≡ true
    go last (inl e) lower = ap a e ∙ last
    go last (inr ne) lower = lower ne

-- a set that has none of the first n has none below n
not_in : (n : ℕ) (a : Mask) → any n a ≡ false → (p : ℕ) → p < n → a p ≡ false
not_in zero a h p lt = absurd (omega (arith, lt))
not_in (suc n) a h p lt =
    let parts = neither (any n a) (a n) h in
    go parts.1 (cases_eq p n) (λ ne. not_in n a parts.0 p (omega (arith, lt, ne)))
  where
    go : a n ≡ false → (p ≡ n) ⊎ (p ≡ n → ⊥) → ((p ≡ n → ⊥) → a p ≡ false) → a p ≡ false
    go last (inl e) lower = ap a e ∙ last
    go last (inr ne) lower = lower ne

-- sets of instances that have a property
module _ (A : ℕ → Type 0) where
  abbrev pub Below : Mask → Type 0
  Below a = (p : ℕ) → a p ≡ true → A p

  pub below_without : (a b : Mask) → Below a → Below (without a b)
  below_without a b ha p h = go (a p) refl h
    where
      go : (x : Bool) → a p ≡ x → (x && not (b p)) ≡ true → A p
      go true e h = ha p e
      go false e h = absurd (cc)

-- where a set has each of the first n, others of these add nothing
pub union_full : (n : ℕ) (a b : Mask) → all n a ≡ true → Below (λ p. p < n) b → union a b ≡ a
union_full n a b h below = fun_ext (λ p. at p (b p) refl)
  where
    or_false : (x : Bool) → (x || false) ≡ x
    or_false true = refl
    or_false false = refl

    at : (p : ℕ) (x : Bool) → b p ≡ x → (a p || x) ≡ a p
    at p true e = let t = in_all n a h p (below p e) in ap (λ z. z || true) t ∙ sym t
    at p false e = or_false (a p)

-- and nobody of them is not in it
pub without_full : (n : ℕ) (a b : Mask) → all n b ≡ true → Below (λ p. p < n) a → without a b ≡ nobody
without_full n a b h below = fun_ext (λ p. at p (a p) refl)
  where
    at : (p : ℕ) (x : Bool) → a p ≡ x → (x && not (b p)) ≡ false
    at p true e = ap not (in_all n b h p (below p e))
    at p false e = refl

-- a part that has each of the first n is the whole
pub full_part : (n : ℕ) (a b : Mask) → all n b ≡ true → Below (λ p. p < n) a → Below (λ p. a p ≡ true) b → b ≡ a
full_part n a b h below part = fun_ext (λ p. at p (a p) (b p) refl refl)
  where
    at : (p : ℕ) (x y : Bool) → a p ≡ x → b p ≡ y → y ≡ x
    at p true y e g = sym g ∙ in_all n b h p (below p e)
    at p false true e g = sym (part p g) ∙ e
    at p false false e g = refl

-- a set of them that has none of them is empty
pub none_in : (n : ℕ) (a : Mask) → any n a ≡ false → Below (λ p. p < n) a → a ≡ nobody
none_in n a h below = fun_ext (λ p. at p (a p) refl)
  where
    at : (p : ℕ) (x : Bool) → a p ≡ x → x ≡ false
    at p true e = sym e ∙ not_in n a h p (below p e)
    at p false e = refl

-- a part and the others are the whole
pub part_and_others : (a b : Mask) → Below (λ p. a p ≡ true) b → union b (without a b) ≡ a
part_and_others a b below = fun_ext (λ p. at p (b p) (a p) refl refl)
  where
    at : (p : ℕ) (x y : Bool) → b p ≡ x → a p ≡ y → (x || (y && not x)) ≡ y
    at p true y e h = sym (below p e) ∙ h
    at p false true e h = refl
    at p false false e h = refl
