-- The set of one instance, and values in that instance alone.
use Rattle.std.proofs.Common.{◌≡◌, ℕ, zero, suc, ◌<◌, ⊎_elim, Bool, true, false, refl, sym, ap, ◌∙◌, arith, true≢false, eq-eqb, ne_eqb}
use Rattle.std.proofs.Math.Path.{fun_ext}
use Rattle.std.specs.Prelude.{[], ◌∷◌, ◌++◌, Some, None, ◌&&◌, ◌||◌, not, if◌then◌else◌, nat_eq}
use Rattle.std.proofs.lemmas.Bool.{cases_eq}
use Rattle.isp_base.specs.Sets.{Mask, nobody, union, without, any, lowest, or_this, lone}
use Rattle.isp_base.specs.Maps.{Lanes, Map, on, holds, each1, each2, map1, map2, where_true, put}
use Rattle.isp_base.specs.Access.{scatter, put_at}
use Rattle.isp_meaning.specs.Rounds.{members, if_listed}

-- ---- numbers

pub eq_itself : (n : ℕ) → nat_eq n n ≡ true
eq_itself n = eq-eqb n n refl

pub eq_false : (n k : ℕ) → (n ≡ k → ⊥) → nat_eq n k ≡ false
eq_false n k h = ne_eqb n k h

pub eq_true : (n k : ℕ) → nat_eq n k ≡ true → n ≡ k
eq_true n k e = ⊎_elim (λ d. d) (λ d. absurd (true≢false (sym e ∙ eq_false n k d))) (cases_eq n k)

pub eq_turned : (n k : ℕ) → nat_eq n k ≡ nat_eq k n
eq_turned n k = ⊎_elim (λ e. ap (λ z. nat_eq z k) e ∙ ap (λ z. nat_eq k z) (sym e)) (λ d. eq_false n k d ∙ sym (eq_false k n (λ e. d (sym e)))) (cases_eq n k)

-- ---- unions and differences

or_none : (b : Bool) → (b || false) ≡ b
or_none true = refl
or_none false = refl

and_all : (b : Bool) → (b && true) ≡ b
and_all true = refl
and_all false = refl

and_not : (b : Bool) → (b && not b) ≡ false
and_not true = refl
and_not false = refl

pub union_nobody : (a : Mask) → union a nobody ≡ a
union_nobody a = fun_ext (λ q. or_none (a q))

pub without_nobody : (a : Mask) → without a nobody ≡ a
without_nobody a = fun_ext (λ q. and_all (a q))

pub without_itself : (a : Mask) → without a a ≡ nobody
without_itself a = fun_ext (λ q. and_not (a q))

-- ---- one among the first n, or nobody

pub any_nobody : (n : ℕ) → any n nobody ≡ false
any_nobody zero = refl
any_nobody (suc n) = or_none (any n nobody) ∙ any_nobody n

pub lowest_nobody : (n : ℕ) → lowest n nobody ≡ None
lowest_nobody zero = refl
lowest_nobody (suc n) = ap (λ o. or_this o false n) (lowest_nobody n)

module _ (p : ℕ) where
  not_yet : (n k : ℕ) → k < n → n ≡ p → nat_eq k p ≡ false
  not_yet n k lt e = eq_false k p (λ d. let no : ⊥ = omega (arith, lt, e, d) in no)

  lowest_before : (n : ℕ) → ((k : ℕ) → k < n → nat_eq k p ≡ false) → lowest n (lone (Some p)) ≡ None
  lowest_before zero h = refl
  lowest_before (suc n) h = ap (λ o. or_this o (nat_eq n p) n) (lowest_before n (λ k lt. h k (omega (arith, lt)))) ∙ ap (λ b. or_this None b n) (h n (omega arith))

  pub lowest_lone : (n : ℕ) → p < n → lowest n (lone (Some p)) ≡ Some p
  lowest_lone zero lt = absurd (omega (arith, lt))
  lowest_lone (suc n) lt = ⊎_elim last (λ d. earlier (lowest_lone n (omega (arith, lt, d)))) (cases_eq n p) where
    last : n ≡ p → lowest (suc n) (lone (Some p)) ≡ Some p
    last e =
        ap (λ o. or_this o (nat_eq n p) n) (lowest_before n (λ k l. not_yet n k l e)) ∙ ap (λ b. or_this None b n) (eq-eqb n p e) ∙ ap Some e

    earlier : lowest n (lone (Some p)) ≡ Some p → lowest (suc n) (lone (Some p)) ≡ Some p
    earlier e = ap (λ o. or_this o (nat_eq n p) n) e

  pub any_lone : (n : ℕ) → p < n → any n (lone (Some p)) ≡ true
  any_lone zero lt = absurd (omega (arith, lt))
  any_lone (suc n) lt = ⊎_elim last (λ d. ap (λ b. b || nat_eq n p) (any_lone n (omega (arith, lt, d)))) (cases_eq n p) where
    or_true : (b : Bool) → (b || true) ≡ true
    or_true true = refl
    or_true false = refl

    last : n ≡ p → any (suc n) (lone (Some p)) ≡ true
    last e = ap (λ b. any n (lone (Some p)) || b) (eq-eqb n p e) ∙ or_true (any n (lone (Some p)))

  -- in order
  members_before : (n : ℕ) → ((k : ℕ) → k < n → nat_eq k p ≡ false) → members n (lone (Some p)) ≡ []
  members_before zero h = refl
  members_before (suc n) h = ap (λ xs. xs ++ if_listed (nat_eq n p) n) (members_before n (λ k lt. h k (omega (arith, lt)))) ∙ ap (λ b. if_listed b n) (h n (omega arith))

  pub members_lone : (n : ℕ) → p < n → members n (lone (Some p)) ≡ p ∷ []
  members_lone zero lt = absurd (omega (arith, lt))
  members_lone (suc n) lt = ⊎_elim last (λ d. earlier d (members_lone n (omega (arith, lt, d)))) (cases_eq n p) where
    last : n ≡ p → members (suc n) (lone (Some p)) ≡ p ∷ []
    last e =
        ap (λ xs. xs ++ if_listed (nat_eq n p) n) (members_before n (λ k l. not_yet n k l e)) ∙ ap (λ b. if_listed b n) (eq-eqb n p e) ∙ ap (λ z. z ∷ []) e

    earlier : (n ≡ p → ⊥) → members n (lone (Some p)) ≡ p ∷ [] → members (suc n) (lone (Some p)) ≡ p ∷ []
    earlier d e = ap (λ xs. xs ++ if_listed (nat_eq n p) n) e ∙ ap (λ b. p ∷ if_listed b n) (eq_false n p d)

  -- ---- values in this instance alone

  abbrev pub just : ℕ → Map
  just y = on (lone (Some p)) (λ q. y)

  pub just_is : (x : Lanes) (y : ℕ) → x p ≡ y → on (lone (Some p)) x ≡ just y
  just_is x y e = fun_ext (λ q. at q (nat_eq q p) refl) where
    at : (q : ℕ) (b : Bool) → nat_eq q p ≡ b → (if b then Some (x q) else None) ≡ (if b then Some y else None)
    at q false i = refl
    at q true i = ap Some (⊎_elim (λ d. ap x d ∙ e) (λ d. absurd (true≢false (sym i ∙ eq_false q p d))) (cases_eq q p))

  pub just_here : (y : ℕ) → just y p ≡ Some y
  just_here y = ap (λ b. if b then Some y else None) (eq_itself p)

  pub each_just : (f : ℕ → ℕ) (y : ℕ) → map1 f (just y) ≡ just (f y)
  each_just f y = fun_ext (λ q. at (nat_eq q p)) where
    at : (b : Bool) → each1 f (if b then Some y else None) ≡ (if b then Some (f y) else None)
    at true = refl
    at false = refl

  pub both_just : (f : ℕ → ℕ → ℕ) (y z : ℕ) → map2 f (just y) (just z) ≡ just (f y z)
  both_just f y z = fun_ext (λ q. at (nat_eq q p)) where
    at : (b : Bool) → each2 f (if b then Some y else None) (if b then Some z else None) ≡ (if b then Some (f y z) else None)
    at true = refl
    at false = refl

  -- those whose value passes a test: this instance, or nobody
  abbrev pub lone_if : Bool → Mask
  lone_if b = if b then lone (Some p) else nobody

  pub where_just : (f : ℕ → Bool) (y : ℕ) → where_true f (just y) ≡ lone_if (f y)
  where_just f y = fun_ext (λ q. at (nat_eq q p) q refl) ∙ whole (f y) where
    either : Bool → Bool → Bool
    either b t = if b then t else false

    at : (b : Bool) (q : ℕ) → nat_eq q p ≡ b → holds f (if b then Some y else None) ≡ (if b then f y else false)
    at true q e = refl
    at false q e = refl

    whole : (t : Bool) → (λ q. if nat_eq q p then t else false) ≡ lone_if t
    whole true = fun_ext (λ q. yes_or (nat_eq q p)) where
      yes_or : (b : Bool) → (if b then true else false) ≡ b
      yes_or true = refl
      yes_or false = refl
    whole false = fun_ext (λ q. no_or (nat_eq q p)) where
      no_or : (b : Bool) → (if b then false else false) ≡ false
      no_or true = refl
      no_or false = refl

  -- ---- what this instance alone stores

  scatter_before : (n i y : ℕ) (f : Lanes) → ((k : ℕ) → k < n → nat_eq k p ≡ false) → scatter n (just i) (just y) f ≡ f
  scatter_before zero i y f h = refl
  scatter_before (suc n) i y f h = ap (λ b. put_at (if b then Some i else None) (just y n) (scatter n (just i) (just y) f)) (h n (omega arith)) ∙ scatter_before n i y f (λ k lt. h k (omega (arith, lt)))

  pub scatter_lone : (n i y : ℕ) (f : Lanes) → p < n → scatter n (just i) (just y) f ≡ put f i y
  scatter_lone zero i y f lt = absurd (omega (arith, lt))
  scatter_lone (suc n) i y f lt = ⊎_elim last (λ d. earlier d (scatter_lone n i y f (omega (arith, lt, d)))) (cases_eq n p) where
    last : n ≡ p → scatter (suc n) (just i) (just y) f ≡ put f i y
    last e =
        ap (λ b. put_at (if b then Some i else None) (if b then Some y else None) (scatter n (just i) (just y) f)) (eq-eqb n p e)
        ∙ ap (λ g. put g i y) (scatter_before n i y f (λ k l. not_yet n k l e))

    earlier : (n ≡ p → ⊥) → scatter n (just i) (just y) f ≡ put f i y → scatter (suc n) (just i) (just y) f ≡ put f i y
    earlier d e = ap (λ b. put_at (if b then Some i else None) (if b then Some y else None) (scatter n (just i) (just y) f)) (eq_false n p d) ∙ e
